use Rattle.export_regions.proofs.Common.{IsOfRegion, leaf_of}
use Rattle.export_regions.proofs.ExportLaws.{one_export}
use Rattle.export_regions.proofs.laws.a_region_has_one_export.Goals as goal

pub returns : goal.returns
returns c roots homes covers unclean root to a b = one_export (IsOfRegion roots homes covers (leaf_of root)) unclean root to a b
