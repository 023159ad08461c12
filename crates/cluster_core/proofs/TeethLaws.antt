-- A server that invents operations, applies some in silence or calls all replies repeats is none of one thread.
use Rattle.cluster_core.proofs.Common.{Entry, IsAskedFor, IsSent, List, Receipt, [], ap, append-nil, arith, length, length-append, none_in, refl, ◌++◌, ◌∙◌, ◌∷◌, ◌≡◌}
use Rattle.std.specs.List.{AllByRecursion}
use Rattle.cluster_core.specs.Teeth.{OneThreadInventsNothing, OneThreadTellsAll}

none_more : (past : List Entry) (more : List Entry) → AllByRecursion (IsSent []) more → past ++ more ≡ past
none_more past [] h = append-nil past
none_more past (e ∷ more) h = absurd (none_in _ h.0)

none_told : (told : List Receipt) → AllByRecursion (IsAskedFor []) told → told ≡ []
none_told [] h = refl
none_told (r ∷ told) h = let asked = h.0 in absurd (none_in asked.0 asked.1)

pub invents_nothing : OneThreadInventsNothing
invents_nothing limit opening past history told h = (h.grows ∙ none_more past h.more h.asked, none_told told h.asked_for)

none_left : (past more : List Entry) → length (past ++ more) ≡ length past → past ++ more ≡ past
none_left past [] h = append-nil past
none_left past (e ∷ more) h = let long = length-append past (e ∷ more) in absurd (omega (arith, h, long))

pub tells_all : OneThreadTellsAll
tells_all limit opening past history sent told h none =
    let many = h.agree.as_many in
    let no_first = ap length none in
    let long : length history ≡ length (past ++ h.more) = ap length h.grows in
    let parts = length-append past h.more in
    h.grows ∙ none_left past h.more (omega (arith, many, no_first, long, parts))
