-- What contracts see of a dump.
use Rattle.std.specs.Prelude.{ℕ, List}
use Rattle.tcmu_types.specs.declared.dump.ItemKind.{ItemKind}

pub record ItemData : Type 0 where
  pub at : ℕ
  pub kind : ItemKind
  pub bytes : List ℕ

pub record HeldData : Type 0 where
  pub serial : ℕ
  pub blocks : List ℕ
  pub payload : List ℕ

pub record DumpData : Type 0 where
  pub mailbox : List ℕ
  pub items : List ItemData
  pub held : List HeldData
