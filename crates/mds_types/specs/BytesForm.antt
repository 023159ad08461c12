-- Bytes, wherever they stand.
use Rattle.std.specs.Prelude.{ℕ, List, box_value}
use Rattle.mds_types.specs.declared.bytes.Form.{Form}
use Rattle.mds_types.specs.declared.bytes.Form.TheVariants.{Short, Long}

abbrev pub bytes_in : Form → List ℕ
bytes_in (Short bytes) = bytes
bytes_in (Long vec) = (box_value vec).items
