-- Leaves that go, listed one by one.
use Rattle.mdcache.proofs.Common.{List, [], ap, append_assoc, each, map_push, sym, ◌++◌, ◌∙◌, ◌∷◌, ◌≡◌}

pub part_on : {A B C : Type 0} (f : A → C) (g : B → C) (parts now : List A) (part : A) (before rest : List B) (x : B) (whole : List C) → now ≡ parts ++ part ∷ [] → before ≡ x ∷ rest → f part ≡ g x → each f parts ++ each g before ≡ whole → each f now ++ each g rest ≡ whole
part_on f g parts now part before rest x whole pushed steps same is =
    (λ i. each f (pushed i) ++ each g rest) ∙ ap (λ l. l ++ each g rest) (map_push f parts part) ∙ append_assoc (each f parts) (f part ∷ []) (each g rest) ∙ (λ i. each f parts ++ same i ∷ each g rest) ∙ (λ i. each f parts ++ each g (sym steps i)) ∙ is
