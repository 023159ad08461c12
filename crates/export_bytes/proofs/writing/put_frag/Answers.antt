-- The names may be sent where the fragment may.
use Rattle.export_bytes.proofs.Common.{List, SentName, is_sent_name, length, list_all, refl, subst, sym, true, ◌≡◌}
use Rattle.export_bytes.proofs.Again.{sent_parts}
use Rattle.export_bytes.proofs.Written.{frag_put}
use Rattle.export_bytes.proofs.writing.put_frag.Goals as goal

pub put_names-requires : goal.put_names-requires
put_names-requires c = subst (λ (xs : List SentName). list_all is_sent_name xs ≡ true) (sym c.as_slice-names.ensures) (sent_parts c.args.frag.now c.requires).named

pub returns : goal.returns
returns c =
    frag_put c.put_names.result c.put_names.new.out.items c.args.out.now.items c.put_u64.new.out.items c.put_u32.new.out.items c.put_base.new.out.items c.put_u32-2.new.out.items c.args.frag.now c.word.result (length c.as_slice-names.result.now) c.as_slice-names.result.now
    c.word.ensures refl c.as_slice-names.ensures c.in_ok-put_u64.ensures c.in_ok-put_u32.ensures c.in_ok-put_base.ensures c.in_ok-put_u32-2.ensures c.put_names.ensures
