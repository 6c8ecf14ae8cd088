-- What is known of the jobs of each id, and that it is so of the jobs that were given.
use Rattle.std.specs.Prelude.{◌≡◌, ◌≢◌, ℕ, ◌+◌, ◌-◌, ◌≤◌, ◌==◌, Bool, true, false, List, [], ◌∷◌, map, slice_index_or, Option, Some, None, if◌then◌else◌}
use Rattle.user_lib.specs.declared.past.Given.{Given}
use Rattle.user_lib.specs.Given.{is_open, keys_of, with_key_of}

-- ==== one id

-- how many have no reply, the keys of those that have one, and for how many more keys there is room
pub record RowState : Type 0 where
  pub count : ℕ
  pub keys : List ℕ
  pub spare : ℕ

abbrev pub no_row : RowState
no_row = record { count = 0; keys = []; spare = 0 }

abbrev pub row_at : List RowState → ℕ → RowState
row_at rows id = slice_index_or rows id no_row

abbrev pub first_key : List ℕ → Option ℕ
first_key [] = None
first_key (key ∷ keys) = Some key

abbrev pub IsReady : List RowState → ℕ → Type 0
IsReady rows id = 1 ≤ (row_at rows id).spare

-- ==== what a change leaves

abbrev pub ShowsSame : List RowState → List RowState → Type 0
ShowsSame rows after = (id : ℕ) → ((row_at after id).count ≡ (row_at rows id).count) × ((row_at after id).keys ≡ (row_at rows id).keys)

-- the row of an id is changed, and no other
pub record ChangesRow (rows after : List RowState) (id n : ℕ) (ks : List ℕ) : Type 0 where
  pub others : (other : ℕ) → other ≢ id → row_at after other ≡ row_at rows other
  pub count : (row_at after id).count ≡ n
  pub keys : (row_at after id).keys ≡ ks

-- the first key is taken, or one that has no reply is out
abbrev pub PopsRow : List RowState → List RowState → ℕ → Option ℕ → Type 0
PopsRow rows after id None = ((row_at rows id).keys ≡ []) × ChangesRow rows after id ((row_at rows id).count - 1) []
PopsRow rows after id (Some key) = ((row_at rows id).keys ≡ key ∷ (row_at after id).keys) × ChangesRow rows after id (row_at rows id).count (row_at after id).keys

-- ==== the jobs that were given

abbrev pub keys_under : ℕ → List Given → List ℕ
keys_under id [] = []
keys_under id (g ∷ gs) = if g.id == id then with_key_of g.key (keys_under id gs) else keys_under id gs

abbrev pub count_open : ℕ → List Given → ℕ
count_open id [] = 0
count_open id (g ∷ gs) = if is_open id g then count_open id gs + 1 else count_open id gs

pub record IsRow (id : ℕ) (gs : List Given) (row : RowState) : Type 0 where
  pub count : row.count ≡ count_open id gs
  pub keys : row.keys ≡ keys_under id gs

abbrev pub AreRows : List RowState → List Given → Type 0
AreRows rows gs = (id : ℕ) → IsRow id gs (row_at rows id)

-- of each id those that have their replies were given before those that have none
abbrev pub ParkedFirst : List Given → Type 0
ParkedFirst [] = Unit {0}
ParkedFirst (g ∷ gs) = (g.key ≡ None → keys_under g.id gs ≡ []) × ParkedFirst gs

-- where there is room for a job, it is of this id
abbrev pub HasRoom : ℕ → List RowState → Option ℕ → Type 0
HasRoom spare rows None = Unit {0}
HasRoom spare rows (Some id) = (1 ≤ spare) × IsReady rows id

-- the ids in line and the rows are those of the jobs; out of order none is in line, and none has its reply
pub record IsOrder (any_order : Bool) (ids : List ℕ) (rows : List RowState) (gs : List Given) : Type 0 where
  pub line : any_order ≡ false → ids ≡ map (λ g. g.id) gs
  pub no_line : any_order ≡ true → ids ≡ []
  pub no_key : any_order ≡ true → keys_of gs ≡ []
  pub rows_of : AreRows rows gs
  pub parked_first : ParkedFirst gs
