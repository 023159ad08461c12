-- What holds of each element of lists that follow one another.
use Rattle.cluster_core.proofs.Common.{Contains, List, [], ◌++◌, ◌∷◌}
use Rattle.std.specs.List.{AllByRecursion}
use Rattle.std.proofs.lemmas.List.Elements.{All-contains_itself, Contains-append_left, Contains-append_right, recursion_from_All}

module _ {X : Type 0} (P : X → Type 0) where
  pub all_append : (xs ys : List X) → AllByRecursion P xs → AllByRecursion P ys → AllByRecursion P (xs ++ ys)
  all_append [] ys h k = k
  all_append (x ∷ xs) ys h k = (h.0, all_append xs ys h.1 k)

  pub all_front : (xs ys : List X) → AllByRecursion P (xs ++ ys) → AllByRecursion P xs
  all_front [] ys h = tt
  all_front (x ∷ xs) ys h = (h.0, all_front xs ys h.1)

  pub all_back : (xs ys : List X) → AllByRecursion P (xs ++ ys) → AllByRecursion P ys
  all_back [] ys h = h
  all_back (x ∷ xs) ys h = all_back xs ys h.1

pub all_weaker : {X : Type 0} (P Q : X → Type 0) → ((x : X) → P x → Q x) → (xs : List X) → AllByRecursion P xs → AllByRecursion Q xs
all_weaker P Q f [] h = tt
all_weaker P Q f (x ∷ xs) h = (f x h.0, all_weaker P Q f xs h.1)

-- all that a list has, a longer one has
pub each_left : {X : Type 0} (xs ys : List X) → AllByRecursion (Contains (xs ++ ys)) xs
each_left xs ys = all_weaker (Contains xs) (Contains (xs ++ ys)) (λ x. Contains-append_left xs ys x) xs (recursion_from_All (Contains xs) xs (All-contains_itself xs))

pub each_right : {X : Type 0} (xs ys : List X) → AllByRecursion (Contains (xs ++ ys)) ys
each_right xs ys = all_weaker (Contains ys) (Contains (xs ++ ys)) (λ x. Contains-append_right xs ys x) ys (recursion_from_All (Contains ys) ys (All-contains_itself ys))
