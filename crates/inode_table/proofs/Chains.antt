-- Chains of parents in a directory table, and what a change of the table leaves of them.
use Rattle.std.proofs.Common.{◌≡◌, ◌==◌, ◌+◌, ◌-◌, ◌<◌, ◌≤◌, ◌↔◌, ℕ, zero, suc, true, false, cond, is_some, Option, Some, None, ⊎_elim, refl, sym, ap, subst, ◌∙◌, arith}
use Rattle.std.specs.Ordering.{nat_cmp}
use Rattle.std.specs.Cmp.{nat_cmp_total}
use Rattle.std.specs.FinMap as map
use Rattle.std.specs.FinMap.{get-empty, len-remove, empty_of_len}
use Rattle.std.proofs.lemmas.Bool.{eqb-true, or_cases}
use Rattle.std.proofs.lemmas.Bool.Decides.{nat_tests}
use Rattle.sorted_map.proofs.NatKeys.{is_same, same_or_apart, get_put, get_beside, get_removed, get_left, after_removal}
use Rattle.inode_table.specs.declared.dirs.Home.{Home}
use Rattle.inode_table.specs.Dirs.{Homes, IsAncestor, parent, further, Reaches, IsRooted, MayCome, MayMove, IsChildless, is_known}

pub some_of : {A : Type 0} (o : Option A) → is_some o ≡ true → (a : A) × (o ≡ Some a)
some_of None some = cc
some_of (Some a) some = (a, refl)

-- a chain whose directories keep their homes stays
kept_chain : (old new : Homes) (Good : ℕ → Type 0) → ((x : ℕ) → Good x → map.get new x ≡ map.get old x) → ((x : ℕ) (home : Home) → Good x → map.get old x ≡ Some home → Good home.parent.0)
    → (n x : ℕ) → Good x → Reaches old n x → Reaches new n x
kept_chain old new Good same closed zero x good reaches = reaches
kept_chain old new Good same closed (suc n) x good (home, is, reaches) =
    (home, same x good ∙ is, kept_chain old new Good same closed n home.parent.0 (closed x home good is) reaches)

-- the root has no home, so a directory with a home isn't the root
not_root : (homes : Homes) (x : ℕ) (home : Home) → map.get homes 1 ≡ None → map.get homes x ≡ Some home → x ≡ 1 → ⊥
not_root homes x home rootless is root = let clash : None ≡ Some home = sym rootless ∙ ap (λ k. map.get homes k) (sym root) ∙ is in cc

-- the parent of a directory reaches the root with one step fewer
pub parent_reaches : (homes : Homes) (n x : ℕ) (home : Home) → map.get homes 1 ≡ None → map.get homes x ≡ Some home → Reaches homes n x → (m : ℕ) × (n ≡ suc m) × Reaches homes m home.parent.0
parent_reaches homes zero x home rootless is root = absurd (not_root homes x home rootless is root)
parent_reaches homes (suc n) x home rootless is (other, stands, reaches) =
    let alike : other ≡ home = cc in
    (n, refl, subst (λ (h : Home). Reaches homes n h.parent.0) alike reaches)

-- a known directory reaches the root
pub known_reaches : (homes : Homes) → IsRooted homes → (x : ℕ) → is_known homes x ≡ true → (n : ℕ) × Reaches homes n x
known_reaches homes rooted x known =
    ⊎_elim (λ root. (0, eqb-true x 1 root)) (λ some. let h = some_of (map.get homes x) some in rooted.rooted x h.0 h.1) (or_cases (x == 1) (is_some (map.get homes x)) known)

-- the table of the root alone
pub empty_rooted : IsRooted map.empty
empty_rooted = record {
  rootless = get-empty nat_cmp 1;
  rooted = λ x home is. let clash : None ≡ Some home = sym (get-empty nat_cmp x) ∙ is in cc;
}

-- a directory gets a home that is not below it
placed_rooted : (homes : Homes) (d : ℕ) (home : Home) → IsRooted homes → (d ≡ 1 → ⊥) → is_known homes home.parent.0 ≡ true → (home.parent.0 ≡ d → ⊥)
    → (IsAncestor homes d home.parent.0 → ⊥) → IsRooted (map.insert homes d home)
placed_rooted homes d home rooted below known other not_below = record {
  rootless = get_beside homes d home 1 (λ same. below (sym same)) ∙ rooted.rootless;
  rooted = λ x h is. ⊎_elim (moved x) (λ apart. let before = rooted.rooted x h (sym (get_beside homes d home x apart) ∙ is) in still before.0 x before.1) (same_or_apart x d);
}
  where
    new : Homes
    new = map.insert homes d home

    Good : ℕ → Type 0
    Good x = (x ≡ d → ⊥) × (IsAncestor homes d x → ⊥)

    up : (n : ℕ) × Reaches new n home.parent.0
    up =
        let before = known_reaches homes rooted home.parent.0 known in
        let closed : (x : ℕ) (h : Home) → Good x → map.get homes x ≡ Some h → Good h.parent.0 = λ x h good is. (λ same. good.1 (parent x h is same), λ above. good.1 (further x h is above)) in
        (before.0, kept_chain homes new Good (λ x good. get_beside homes d home x good.0) closed before.0 home.parent.0 (other, not_below) before.1)

    moved : (x : ℕ) → x ≡ d → (n : ℕ) × Reaches new n x
    moved x same = (suc up.0, (home, ap (λ k. map.get new k) same ∙ get_put homes d home, up.1))

    still : (n x : ℕ) → Reaches homes n x → (m : ℕ) × Reaches new m x
    still zero x root = (0, root)
    still (suc n) x (h, is, reaches) =
        let rest = still n h.parent.0 reaches in
        ⊎_elim (moved x) (λ apart. (suc rest.0, (h, get_beside homes d home x apart ∙ is, rest.1))) (same_or_apart x d)

-- a new directory comes in, which is above nothing
pub adopted_rooted : (homes : Homes) (d : ℕ) (home : Home) → IsRooted homes → MayCome homes d home → IsRooted (map.insert homes d home)
adopted_rooted homes d home rooted may =
    let up = known_reaches homes rooted home.parent.0 may.parent_known in
    placed_rooted homes d home rooted may.other may.parent_known (unknown up.0 home.parent.0 up.1) (never home.parent.0)
  where
    unknown : (n x : ℕ) → Reaches homes n x → x ≡ d → ⊥
    unknown zero x root same = may.other (sym same ∙ root)
    unknown (suc n) x (h, is, reaches) same = let clash : None ≡ Some h = sym may.fresh ∙ ap (λ k. map.get homes k) (sym same) ∙ is in cc

    never : (x : ℕ) → IsAncestor homes d x → ⊥
    never x (parent _ h is same) = let up = rooted.rooted x h is in let shorter = parent_reaches homes up.0 x h rooted.rootless is up.1 in unknown shorter.0 h.parent.0 shorter.2 same
    never x (further _ h is above) = never h.parent.0 above

-- a directory moves to a dentry that is not below it
pub moved_rooted : (homes : Homes) (d : ℕ) (home : Home) → IsRooted homes → MayMove homes d home → IsRooted (map.insert homes d home)
moved_rooted homes d home rooted may = placed_rooted homes d home rooted root_stays may.parent_known may.other may.not_below
  where
    root_stays : d ≡ 1 → ⊥
    root_stays same = let clash : false ≡ true = sym (ap is_some (ap (λ k. map.get homes k) same ∙ rooted.rootless)) ∙ may.there in cc

-- a directory goes that is no one's parent
pub dropped_rooted : (homes : Homes) (d : ℕ) → IsRooted homes → IsChildless homes d → IsRooted (map.remove homes d)
dropped_rooted homes d rooted childless = record {
  rootless = ⊎_elim (λ same. ap (λ k. map.get (map.remove homes d) k) same ∙ get_removed homes d) (λ apart. get_left homes d 1 apart ∙ rooted.rootless) (same_or_apart 1 d);
  rooted = λ x h is.
      let was = after_removal homes d x h is in
      let before = rooted.rooted x h was.1 in
      (before.0, kept_chain homes (map.remove homes d) (λ y. y ≡ d → ⊥) (get_left homes d) (λ y k good stands same. childless y k stands same) before.0 x was.0 before.1);
}

parent_of : Option Home → ℕ
parent_of None = 0
parent_of (Some home) = home.parent.0

-- how many parents lead on from a directory, counted no further than so many
pub climbed : ℕ → Homes → ℕ → ℕ
climbed zero homes x = 0
climbed (suc fuel) homes x = cond (is_some (map.get homes x)) (suc (climbed fuel homes (parent_of (map.get homes x)))) 0

climbed_is : (fuel : ℕ) (homes : Homes) (n x : ℕ) → map.get homes 1 ≡ None → Reaches homes n x → n ≤ fuel → climbed fuel homes x ≡ n
unfolding climbed parent_of
climbed_is zero homes n x rootless reaches few = let none : 0 ≡ n = omega arith in none
climbed_is (suc fuel) homes zero x rootless root few =
    let none : map.get homes x ≡ None = ap (λ k. map.get homes k) root ∙ rootless in
    ap (λ (o : Option Home). cond (is_some o) (suc (climbed fuel homes (parent_of o))) 0) none
climbed_is (suc fuel) homes (suc n) x rootless (h, is, reaches) few =
    ap (λ (o : Option Home). cond (is_some o) (suc (climbed fuel homes (parent_of o))) 0) is
    ∙ ap suc (climbed_is fuel homes n h.parent.0 rootless reaches (omega arith))

-- two chains from a directory to the root are of one length
same_height : (homes : Homes) (n m x : ℕ) → map.get homes 1 ≡ None → Reaches homes n x → Reaches homes m x → n ≡ m
same_height homes n m x rootless reaches other = sym (climbed_is (n + m) homes n x rootless reaches (omega arith)) ∙ climbed_is (n + m) homes m x rootless other (omega arith)

-- a chain that is shorter than that of x doesn't go through x
around : (homes : Homes) (height x : ℕ) → map.get homes 1 ≡ None → Reaches homes height x → (m y : ℕ) → m < height → Reaches homes m y → Reaches (map.remove homes x) m y
around homes height x rootless tall zero y less root = root
around homes height x rootless tall (suc m) y less (h, is, reaches) =
    (h, get_left homes x y apart ∙ is, around homes height x rootless tall m h.parent.0 (omega arith) reaches)
  where
    apart : y ≡ x → ⊥
    apart same = omega (arith, same_height homes height (suc m) x rootless tall (subst (λ z. Reaches homes (suc m) z) same (h, is, reaches)), less)

-- a table has one directory fewer without one of its own
one_fewer : (homes : Homes) (x : ℕ) (home : Home) → map.get homes x ≡ Some home → suc (map.len (map.remove homes x)) ≡ map.len homes
one_fewer homes x home is =
    let gone : map.len (map.remove homes x) ≡ map.len homes - 1 = len-remove nat_cmp_total homes x ∙ ap (λ (o : Option Home). cond (is_some o) (map.len homes - 1) (map.len homes)) is in
    let some : map.len homes ≡ 0 → ⊥ = λ none. let clash : None ≡ Some home = sym (get-empty nat_cmp x) ∙ ap (λ (m : Homes). map.get m x) (sym (empty_of_len homes none)) ∙ is in cc in
    omega arith

-- a chain is no longer than the table
pub within_table : (n : ℕ) (homes : Homes) (x : ℕ) → map.get homes 1 ≡ None → Reaches homes n x → n ≤ map.len homes
within_table zero homes x rootless root = omega arith
within_table (suc n) homes x rootless (h, is, reaches) =
    let left = map.remove homes x in
    let none : map.get left 1 ≡ None = get_left homes x 1 (λ same. not_root homes x h rootless is (sym same)) ∙ rootless in
    omega (arith, within_table n left h.parent.0 none (around homes (suc n) x rootless (h, is, reaches) n h.parent.0 (omega arith) reaches), one_fewer homes x h is)

-- a step to the parent is one step less to go
pub nearer : (homes : Homes) (x : ℕ) (home : Home) → IsRooted homes → map.get homes x ≡ Some home → climbed (map.len homes) homes home.parent.0 < climbed (map.len homes) homes x
nearer homes x home rooted is =
    let up = rooted.rooted x home is in
    let rest = parent_reaches homes up.0 x home rooted.rootless is up.1 in
    let few : up.0 ≤ map.len homes = within_table up.0 homes x rooted.rootless up.1 in
    let there = climbed_is (map.len homes) homes rest.0 home.parent.0 rooted.rootless rest.2 (omega (arith, few, rest.1)) in
    omega (arith, climbed_is (map.len homes) homes up.0 x rooted.rootless up.1 few, rest.1, there)

-- where a directory isn't the parent of x, it is above x exactly if it is above the parent of x
pub above_parent : (homes : Homes) (d x : ℕ) (home : Home) → map.get homes x ≡ Some home → (home.parent.0 ≡ d → ⊥) → IsAncestor homes d x ↔ IsAncestor homes d home.parent.0
above_parent homes d x home is apart = (down, λ above. further x home is above)
  where
    down : IsAncestor homes d x → IsAncestor homes d home.parent.0
    down (parent x h stands same) = let alike : h ≡ home = cc in absurd (apart (sym (ap (λ (j : Home). j.parent.0) alike) ∙ same))
    down (further x h stands above) = let alike : h ≡ home = cc in subst (λ (j : Home). IsAncestor homes d j.parent.0) alike above

-- what a comparison of numbers told
pub are_same : (a b : ℕ) → true ≡ (a == b) → a ≡ b
are_same a b told = grind (arith, nat_tests)

pub are_apart : (a b : ℕ) → false ≡ (a == b) → a ≡ b → ⊥
are_apart a b told same = let clash : false ≡ true = told ∙ is_same a b same in cc
