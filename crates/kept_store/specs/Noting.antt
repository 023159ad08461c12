-- The notes of a write.
use Rattle.std.specs.Prelude.{◌≡◌, ℕ, false, List}
use Rattle.objstore.specs.Objects.{Objects, header_at}
use Rattle.object_tables.specs.Noted.{Noted, has_key, has_name}
use Rattle.object_tables.specs.Spelled.{value_at}

-- all that was noted still is
pub record IsMore (old new : Noted) : Type 0 where
  pub names : (name : List ℕ) → has_name new name ≡ false → has_name old name ≡ false
  pub keys : (name key : List ℕ) → has_key new name key ≡ false → has_key old name key ≡ false

-- what isn't noted is the same in both
pub record AgreeBut (a b : Objects) (noted : Noted) : Type 0 where
  pub headers : (name : List ℕ) → has_name noted name ≡ false → header_at a name ≡ header_at b name
  pub values : (name key : List ℕ) → has_key noted name key ≡ false → value_at a name key ≡ value_at b name key
