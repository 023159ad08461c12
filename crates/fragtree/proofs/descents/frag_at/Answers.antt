-- What begins at a multiple of its span is a fragment.
use Rattle.fragtree.proofs.Common.{Fragment, IsFragment, None, Option, Some, SomeIff, arith, is_some, one_shl, refl, true, ◌-◌, ◌≡◌}
use Rattle.fragtree.proofs.Rounds.{frag_at-IsFragment}
use Rattle.fragtree.proofs.descents.frag_at.Goals as goal

some : (r : Option Fragment) (f : Fragment) → SomeIff r (IsFragment f) f → IsFragment f → is_some r ≡ true
some (Some g) f s fragment = refl
some None f s fragment = absurd (s fragment)

pub unwrap-requires : goal.unwrap-requires
unwrap-requires c =
    let span = one_shl (24 - c.args.bits) 32 (omega arith) in
    some c.new.result _ c.new.ensures (rw span (frag_at-IsFragment c.args.bits c.args.hash c.requires.few c.requires.low))
