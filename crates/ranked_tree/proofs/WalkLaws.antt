-- What a walk over the leaves of a directory finds.
use Rattle.ranked_tree.proofs.Common.{Contains, Fragment, HasLeaf, List, first_has, later_has, subst, sym, ◌∷◌, ◌≡◌}

-- ---- leaf by leaf

-- the leaves to come are some of all
abbrev pub AreWithin : List Fragment → List Fragment → Type 0
AreWithin rest all = (f : Fragment) → Contains rest f → HasLeaf all f

pub rest_within : (f : Fragment) (fs rest all : List Fragment) → rest ≡ f ∷ fs → AreWithin rest all → AreWithin fs all
rest_within f fs rest all is within g has = within g (subst (λ gs. Contains gs g) (sym is) (later_has f g fs has))

pub first_within : (f : Fragment) (fs rest all : List Fragment) → rest ≡ f ∷ fs → AreWithin rest all → HasLeaf all f
first_within f fs rest all is within = within f (subst (λ gs. Contains gs f) (sym is) (first_has f fs))
