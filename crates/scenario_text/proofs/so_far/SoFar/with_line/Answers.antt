use Rattle.std.proofs.Common.{◌∙◌, ap, subst, sym, List, ℕ, length, ◌+◌, ◌<◌, ◌∷◌, [], ◌++◌, arith}
use Rattle.text_model.specs.ScenarioData.{ScenarioData, LineData}
use Rattle.tcmu_types.specs.Numbers.{bit}
use Rattle.scenario_text.proofs.Counting.{Found, dump_found, many_found, names_found, refused_dump, refused_many, taken_as, counted_more}
use Rattle.scenario_text.proofs.so_far.SoFar.with_line.Goals as goal

pub returns-then-breaks_dump : goal.returns-then-breaks_dump
returns-then-breaks_dump c =
    let l = c.args.line in
    let w : ScenarioData = record { devices = c.self.inside.devices.items; lines = c.self.inside.lines.items } in
    let d = dump_found c.args.self w l _ _ _ _ _ _ _ _ _ c.self.view_is c.self.invariant.0 c.as_slice.ensures c.bit.ensures.value c.is_dump.ensures c.breaks_dump.ensures in
    refused_dump c.args.limits.now c.args.self l (d.0 ∙ c.if-breaks_dump.true)

pub returns-then-breaks_many : goal.returns-then-breaks_many
returns-then-breaks_many c =
    let l = c.args.line in
    let w : ScenarioData = record { devices = c.self.inside.devices.items; lines = c.self.inside.lines.items } in
    let d = dump_found c.args.self w l _ _ _ _ _ _ _ _ _ c.self.view_is c.self.invariant.0 c.as_slice.ensures c.bit.ensures.value c.is_dump.ensures c.breaks_dump.ensures in
    let found : Found l c.self.inside.initiators.items (length w.lines) c.self.inside.events c.self.inside.bytes_in c.self.inside.bytes_out c.names_at-senders.result.now (c.len.result + 1) (c.self.inside.events + c.bit-2.result) (c.self.inside.bytes_in + c.bytes_in.result) (c.self.inside.bytes_out + c.bytes_out.result) =
    record {
      names_are = names_found l _ _ _ _ _ c.in_ok-note_initiator.ensures c.names_at-senders.ensures c.deref.ensures.value (ap (λ (x : LineData). x.device) c.line.view_is);
      lines_are = ap (λ (n : ℕ). n + 1) c.len.ensures;
      events_are = ap (λ (n : ℕ). c.self.inside.events + n) (c.bit-2.ensures.value ∙ ap bit c.is_event.ensures);
      ins_are = ap (λ (n : ℕ). c.self.inside.bytes_in + n) c.bytes_in.ensures.value;
      outs_are = ap (λ (n : ℕ). c.self.inside.bytes_out + n) c.bytes_out.ensures.value;
    } in
    let m = many_found c.args.limits.now c.args.self w l _ _ _ _ _ _ _ _ _ _ _ c.self.view_is c.self.invariant.0 c.requires found c.breaks_many.ensures.value in
    refused_many c.args.limits.now c.args.self l (d.0 ∙ c.if-breaks_dump.false) (m.0 ∙ c.if-breaks_many.true)

pub invariant_of-result : goal.invariant_of-result
invariant_of-result c =
    let l = c.args.line in
    let w : ScenarioData = record { devices = c.self.inside.devices.items; lines = c.self.inside.lines.items } in
    let d = dump_found c.args.self w l _ _ _ _ _ _ _ _ _ c.self.view_is c.self.invariant.0 c.as_slice.ensures c.bit.ensures.value c.is_dump.ensures c.breaks_dump.ensures in
    let found : Found l c.self.inside.initiators.items (length w.lines) c.self.inside.events c.self.inside.bytes_in c.self.inside.bytes_out c.names_at-senders.result.now (c.len.result + 1) (c.self.inside.events + c.bit-2.result) (c.self.inside.bytes_in + c.bytes_in.result) (c.self.inside.bytes_out + c.bytes_out.result) =
    record {
      names_are = names_found l _ _ _ _ _ c.in_ok-note_initiator.ensures c.names_at-senders.ensures c.deref.ensures.value (ap (λ (x : LineData). x.device) c.line.view_is);
      lines_are = ap (λ (n : ℕ). n + 1) c.len.ensures;
      events_are = ap (λ (n : ℕ). c.self.inside.events + n) (c.bit-2.ensures.value ∙ ap bit c.is_event.ensures);
      ins_are = ap (λ (n : ℕ). c.self.inside.bytes_in + n) c.bytes_in.ensures.value;
      outs_are = ap (λ (n : ℕ). c.self.inside.bytes_out + n) c.bytes_out.ensures.value;
    } in
    let m = many_found c.args.limits.now c.args.self w l _ _ _ _ _ _ _ _ _ _ _ c.self.view_is c.self.invariant.0 c.requires found c.breaks_many.ensures.value in
    let there : l.device < length w.devices = subst (λ (s : ScenarioData). l.device < length s.devices) (sym c.self.view_is) c.requires in
    let few : length w.lines + 1 < 4294967296 = omega (arith, c.len.ensures, c.breaks_many.ensures.few c.if-breaks_many.false) in
    let k = counted_more c.args.limits.now w l _ _ _ _ _ c.self.invariant.0 there few (d.1 ∙ c.if-breaks_dump.false) (m.1 ∙ c.if-breaks_many.false) in
    rw (c.push.ensures.items, c.in_ok-reserve.ensures.items, c.in_ok-note_initiator.ensures, c.bit.ensures.value, c.is_dump.ensures, c.bit-2.ensures.value, c.is_event.ensures, c.bytes_in.ensures.value, c.bytes_out.ensures.value) (k, c.self.invariant.1)

pub returns : goal.returns
returns c =
    let l = c.args.line in
    let w : ScenarioData = record { devices = c.self.inside.devices.items; lines = c.self.inside.lines.items } in
    let d = dump_found c.args.self w l _ _ _ _ _ _ _ _ _ c.self.view_is c.self.invariant.0 c.as_slice.ensures c.bit.ensures.value c.is_dump.ensures c.breaks_dump.ensures in
    let found : Found l c.self.inside.initiators.items (length w.lines) c.self.inside.events c.self.inside.bytes_in c.self.inside.bytes_out c.names_at-senders.result.now (c.len.result + 1) (c.self.inside.events + c.bit-2.result) (c.self.inside.bytes_in + c.bytes_in.result) (c.self.inside.bytes_out + c.bytes_out.result) =
    record {
      names_are = names_found l _ _ _ _ _ c.in_ok-note_initiator.ensures c.names_at-senders.ensures c.deref.ensures.value (ap (λ (x : LineData). x.device) c.line.view_is);
      lines_are = ap (λ (n : ℕ). n + 1) c.len.ensures;
      events_are = ap (λ (n : ℕ). c.self.inside.events + n) (c.bit-2.ensures.value ∙ ap bit c.is_event.ensures);
      ins_are = ap (λ (n : ℕ). c.self.inside.bytes_in + n) c.bytes_in.ensures.value;
      outs_are = ap (λ (n : ℕ). c.self.inside.bytes_out + n) c.bytes_out.ensures.value;
    } in
    let m = many_found c.args.limits.now c.args.self w l _ _ _ _ _ _ _ _ _ _ _ c.self.view_is c.self.invariant.0 c.requires found c.breaks_many.ensures.value in
    taken_as c.args.limits.now c.args.self w l _ c.self.view_is (d.0 ∙ c.if-breaks_dump.false) (m.0 ∙ c.if-breaks_many.false) (c.push.ensures.items ∙ ap (λ (xs : List LineData). xs ++ l ∷ []) c.in_ok-reserve.ensures.items)
