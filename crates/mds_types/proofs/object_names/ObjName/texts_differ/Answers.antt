use Rattle.mds_types.proofs.ObjectTextLaws.{texts_differ as law}
use Rattle.mds_types.proofs.object_names.ObjName.texts_differ.Goals as goal

pub returns : goal.returns
returns c = law
