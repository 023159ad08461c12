-- What stands at a dentry of the plain tree once an inode was put at a dentry or taken away.
use Rattle.std.specs.Prelude.{◌≡◌, Bool, true, false, cond, ◌||◌, ◌⊎◌, List, [], ◌∷◌, Some, None, refl}
use Rattle.std.specs.List.{list_any}
use Rattle.std.proofs.Common.{sym, ap, ◌∙◌, inl, inr}
use Rattle.std.proofs.lemmas.Bool.{false_from_ne_true, or_left, or_right}
use Rattle.std.specs.Ordering.{is_eq, eq_by_cmp}
use Rattle.std.specs.Cmp.{tied_itself}
use Rattle.std.specs.FinMap as map
use Rattle.std.specs.FinMap.{find, get-entries, get-insert, get-remove}
use Rattle.mds_types.specs.declared.dentries.Dentry.{Dentry}
use Rattle.mds_types.specs.declared.inodes.Inode.{Inode}
use Rattle.mds_types.specs.Tree.{Tree, dentry_cmp}
use Rattle.mds_types.proofs.OrderLaws.{dentry-total}
use Rattle.mds_types.specs.OrderLaws.{dentry-exact}
use Rattle.sorted_map.proofs.MapLaws.{tie}

-- two dentries that tie are one
pub dentry_tied : (p q : Dentry) → eq_by_cmp dentry_cmp p q ≡ true → p ≡ q
dentry_tied p q tied = dentry-exact p q (tie (dentry_cmp p q) tied)

pub dentry_itself : (p : Dentry) → eq_by_cmp dentry_cmp p p ≡ true
dentry_itself p = ap is_eq (tied_itself dentry-total p)

pub same_dentry_is : (p q : Dentry) → p ≡ q → eq_by_cmp dentry_cmp p q ≡ true
same_dentry_is p q same = ap (λ r. eq_by_cmp dentry_cmp p r) (sym same) ∙ dentry_itself p

pub dentry_apart : (p q : Dentry) → (p ≡ q → ⊥) → eq_by_cmp dentry_cmp p q ≡ false
dentry_apart p q apart = false_from_ne_true _ (λ tied. apart (dentry_tied p q tied))

pub same_or_apart : (p q : Dentry) → (p ≡ q) ⊎ (p ≡ q → ⊥)
same_or_apart p q = go (eq_by_cmp dentry_cmp p q) refl
  where
    go : (b : Bool) → eq_by_cmp dentry_cmp p q ≡ b → (p ≡ q) ⊎ (p ≡ q → ⊥)
    go true tied = inl (dentry_tied p q tied)
    go false is = inr (λ same. let clash : true ≡ false = sym (same_dentry_is p q same) ∙ is in cc)

pub get_put : (tree : Tree) (p : Dentry) (inode : Inode) → map.get (map.insert tree p inode) p ≡ Some inode
get_put tree p inode = get-insert dentry-total tree p inode p ∙ ap (λ b. cond b (Some inode) (map.get tree p)) (dentry_itself p)

pub get_beside : (tree : Tree) (p : Dentry) (inode : Inode) (q : Dentry) → (q ≡ p → ⊥) → map.get (map.insert tree p inode) q ≡ map.get tree q
get_beside tree p inode q apart = get-insert dentry-total tree p inode q ∙ ap (λ b. cond b (Some inode) (map.get tree q)) (dentry_apart q p apart)

pub get_removed : (tree : Tree) (p : Dentry) → map.get (map.remove tree p) p ≡ None
get_removed tree p = get-remove dentry-total tree p p ∙ ap (λ b. cond b None (map.get tree p)) (dentry_itself p)

pub get_left : (tree : Tree) (p q : Dentry) → (q ≡ p → ⊥) → map.get (map.remove tree p) q ≡ map.get tree q
get_left tree p q apart = get-remove dentry-total tree p q ∙ ap (λ b. cond b None (map.get tree q)) (dentry_apart q p apart)

-- what stands once an inode was put at a dentry is that inode, or stood before at another dentry
pub stands_after_put : (tree : Tree) (p : Dentry) (new : Inode) (q : Dentry) (inode : Inode) → map.get (map.insert tree p new) q ≡ Some inode
    → ((q ≡ p) × (new ≡ inode)) ⊎ ((q ≡ p → ⊥) × (map.get tree q ≡ Some inode))
stands_after_put tree p new q inode stands = go (same_or_apart q p)
  where
    go : (q ≡ p) ⊎ (q ≡ p → ⊥) → ((q ≡ p) × (new ≡ inode)) ⊎ ((q ≡ p → ⊥) × (map.get tree q ≡ Some inode))
    go (inl same) =
        let is : Some new ≡ Some inode = sym (get_put tree p new) ∙ ap (λ r. map.get (map.insert tree p new) r) (sym same) ∙ stands in
        inl (same, cc)
    go (inr apart) = inr (apart, sym (get_beside tree p new q apart) ∙ stands)

-- what stands once a dentry was cleared stood before at another dentry
pub stands_after_removal : (tree : Tree) (p q : Dentry) (inode : Inode) → map.get (map.remove tree p) q ≡ Some inode → (q ≡ p → ⊥) × (map.get tree q ≡ Some inode)
stands_after_removal tree p q inode stands = go (same_or_apart q p)
  where
    go : (q ≡ p) ⊎ (q ≡ p → ⊥) → (q ≡ p → ⊥) × (map.get tree q ≡ Some inode)
    go (inl same) = let clash : None ≡ Some inode = sym (get_removed tree p) ∙ ap (λ r. map.get (map.remove tree p) r) (sym same) ∙ stands in cc
    go (inr apart) = (apart, sym (get_left tree p q apart) ∙ stands)

any_of_pairs : (p : Dentry × Inode → Bool) (es : List (Dentry × Inode)) (k : Dentry) (v : Inode) → find dentry_cmp k es ≡ Some v → p (k, v) ≡ true → list_any p es ≡ true
any_of_pairs p [] k v found holds = cc
any_of_pairs p (e ∷ es) k v found holds = go (eq_by_cmp dentry_cmp k e.0) refl (λ rest. any_of_pairs p es k v rest holds)
  where
    go : (b : Bool) → eq_by_cmp dentry_cmp k e.0 ≡ b → (find dentry_cmp k es ≡ Some v → list_any p es ≡ true) → (p e || list_any p es) ≡ true
    go true tied more =
        let value : Some e.1 ≡ Some v = sym (ap (λ b. cond b (Some e.1) (find dentry_cmp k es)) tied) ∙ found in
        let is : v ≡ e.1 = cc in
        or_left (p e) (list_any p es) (ap (λ (q : Dentry). p (q, e.1)) (sym (dentry_tied k e.0 tied)) ∙ ap (λ (i : Inode). p (k, i)) (sym is) ∙ holds)
    go false apart more = or_right (p e) (list_any p es) (more (sym (ap (λ b. cond b (Some e.1) (find dentry_cmp k es)) apart) ∙ found))

-- a test that an entry passes is passed by some entry
pub any_of : (tree : Tree) (p : Dentry × Inode → Bool) (dentry : Dentry) (inode : Inode) → map.get tree dentry ≡ Some inode → p (dentry, inode) ≡ true → list_any p (map.entries tree) ≡ true
any_of tree p dentry inode stands holds = any_of_pairs p (map.entries tree) dentry inode (sym (get-entries tree dentry) ∙ stands) holds
