-- How a medium opens.
use Rattle.std.proofs.Common.{◌∙◌, ◌≡◌, ℕ, ◌*◌, ◌/◌, Bool, List, [], replicate, Option, Some, None, subst, sym, ap, refl}
use Rattle.std.specs.Option.{option_map}
use Rattle.text_model.specs.Config.{ConfigData, InMemory, InFile}
use Rattle.tcmu_model.specs.MediumState.{MediumState}
use Rattle.scsi_model.specs.Base.{zeroed, opened_store}
use Rattle.scsi_model.specs.Medium.{blanked, empty_span, memory_state, opened_medium, memory_below, file_below}
use Rattle.scsi_model.proofs.Cleared.{cleared_none}
use Rattle.edge.specs.Stores.{StoreState, FilesState, FetchGives}
use Rattle.medium_file.specs.FileState.{below_file, file_state}
use Rattle.media.specs.Configured.{configured}
use Rattle.media.specs.Opening.{MakesKind, MakesMedium}

-- nothing is hidden where nothing is lost, and no block is free
blanked_none : (bytes : Option (List ℕ)) → option_map (blanked empty_span) bytes ≡ bytes
blanked_none None = refl
blanked_none (Some xs) = refl

cleared_of_none : (bytes : Option (List ℕ)) → option_map (zeroed []) bytes ≡ bytes
cleared_of_none None = refl
cleared_of_none (Some xs) = ap (λ (ys : List ℕ). Some ys) (cleared_none xs)

below_opened : (s : StoreState) → below_file s empty_span [] ≡ file_below s.size s.bytes s.calls s.syncs
below_opened s =
    ap (λ (bytes : Option (List ℕ)). record (below_file s empty_span []) { bytes = bytes }) (blanked_none s.bytes)
    ∙ ap (λ (bytes : Option (List ℕ)). record (file_below s.size s.bytes s.calls s.syncs) { store = opened_store s.size bytes s.calls s.syncs }) (cleared_of_none s.bytes)

pub opens_memory : (c : ConfigData) (blocks : ℕ) (protected : Bool) (fails : List ℕ) (below m : MediumState) (old : Option FilesState)
    → c.kind ≡ InMemory blocks → protected ≡ c.protected → fails ≡ c.fails → below ≡ memory_state blocks (replicate (512 * blocks) 0) 0
    → m ≡ configured protected fails 0 below → MakesMedium c old old m
opens_memory c blocks protected fails below m old k p f b e =
    subst (λ kind. MakesKind kind c old old m) (sym k) (record {
      medium = e ∙ ap (configured protected fails 0) b ∙ ap (λ q. opened_medium blocks q fails (memory_below blocks)) p ∙ ap (λ ns. opened_medium blocks c.protected ns (memory_below blocks)) f;
      files = refl;
    })

pub opens_file : (c : ConfigData) (name : List ℕ) (s : StoreState) (protected : Bool) (fails : List ℕ) (below m : MediumState) (old new : Option FilesState)
    → c.kind ≡ InFile name → protected ≡ c.protected → fails ≡ c.fails → below ≡ file_state (s.size / 512) s empty_span [] 0
    → m ≡ configured protected fails 0 below → FetchGives name s old new → MakesMedium c old new m
opens_file c name s protected fails below m old new k p f b e o =
    subst (λ kind. MakesKind kind c old new m) (sym k) (record {
      store = s;
      medium = e ∙ ap (configured protected fails 0) b
          ∙ ap (λ q. opened_medium (s.size / 512) q fails (below_file s empty_span [])) p
          ∙ ap (λ ns. opened_medium (s.size / 512) c.protected ns (below_file s empty_span [])) f
          ∙ ap (opened_medium (s.size / 512) c.protected c.fails) (below_opened s);
      fetched = o;
    })
