-- The fragments may be sent where the export may.
use Rattle.export_bytes.proofs.Common.{List, SentFrag, is_sent_frag, list_all, subst, sym, true, ◌≡◌}
use Rattle.export_bytes.proofs.Again.{sendable_parts}
use Rattle.export_bytes.proofs.writing.encode_export.Goals as goal

pub put_frags-requires : goal.put_frags-requires
put_frags-requires c = subst (λ (xs : List SentFrag). list_all is_sent_frag xs ≡ true) (sym c.as_slice-frags.ensures) (sendable_parts c.args.export.now c.requires).sent
