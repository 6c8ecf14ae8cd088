use Rattle.std.proofs.Common.{◌≡◌, false, sym, ◌∙◌, rules}
use Rattle.region_model.specs.Regions.{can_lend}
use Rattle.shm_region.proofs.Lent.{lends_by_rule}
use Rattle.shm_region.proofs.region.Region.lend.Goals as goal

pub returns-then-not-are_whole-clause-answer : goal.returns-then-not-are_whole-clause-answer
returns-then-not-are_whole-clause-answer c = search rules

pub returns-clause-answer : goal.returns-clause-answer
returns-clause-answer c = search rules

pub returns-then-not-are_whole-clause-rule : goal.returns-then-not-are_whole-clause-rule
returns-then-not-are_whole-clause-rule c =
    let rule = lends_by_rule c.args.self.now c.args.iovs.now.items in
    let answer : false ≡ can_lend c.args.self.now c.args.iovs.now.items = returns-then-not-are_whole-clause-answer c in
    (λ h. rule.0 (sym answer ∙ h), λ h. answer ∙ rule.1 h)

pub returns-clause-rule : goal.returns-clause-rule
returns-clause-rule c =
    let rule = lends_by_rule c.args.self.now c.args.iovs.now.items in
    let answer : c.lend_iovs.result ≡ can_lend c.args.self.now c.args.iovs.now.items = returns-clause-answer c in
    (λ h. rule.0 (sym answer ∙ h), λ h. answer ∙ rule.1 h)
