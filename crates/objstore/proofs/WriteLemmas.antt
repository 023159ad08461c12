-- What a write leaves, for an object that is there and for one that isn't.
use Rattle.objstore.proofs.Common.{Bool, Err, List, None, Objects, Ok, Omap, OnErr, OnOk, Result, Some, WriteOp, ap, applied, arith, cond, contents-entries, empty_omap, eq_by_cmp, exact_bytes, false, get-insert, key_cmp, len-entries, length, length-map, map, nat_list_cmp_total, refl, same_map, sym, take, take_all, tie, true, unwrap_or, ℕ, ◌∙◌, ◌≡◌}
use Rattle.std.specs.FinMap as finmap
use Rattle.objstore.specs.Objects.{written}

-- to write back what was there changes nothing
written_back : (objects : Objects) (name : List ℕ) (object : Omap) → finmap.get objects name ≡ Some object → finmap.insert objects name object ≡ objects
written_back objects name object there =
    same_map nat_list_cmp_total exact_bytes _ _ (λ q. get-insert nat_list_cmp_total objects name object q ∙ go q (eq_by_cmp key_cmp q name) refl)
  where
    go : (q : List ℕ) (b : Bool) → eq_by_cmp key_cmp q name ≡ b → cond b (Some object) (finmap.get objects q) ≡ finmap.get objects q
    go q true same = sym there ∙ ap (finmap.get objects) (sym (exact_bytes q name (tie (key_cmp q name) same)))
    go q false apart = refl

pub done_at : {A E : Type 0} (r : Result A E) (objects : Objects) (name : List ℕ) (op : WriteOp) (old new : Omap) → Some old ≡ finmap.get objects name → OnOk r (new ≡ applied op old)
    → OnOk r (finmap.from_sorted {R = key_cmp} (finmap.entries (finmap.insert objects name new)) ≡ written objects name op)
unfolding written
done_at (Ok x) objects name op old new there is =
    contents-entries _ ∙ ap (finmap.insert objects name) (is ∙ ap (λ o. applied op (unwrap_or o empty_omap)) there)
done_at (Err x) objects name op old new there is = tt

pub same_at : {A E : Type 0} (r : Result A E) (objects : Objects) (name : List ℕ) (old new : Omap) → Some old ≡ finmap.get objects name → OnErr r (new ≡ old)
    → OnErr r (finmap.from_sorted {R = key_cmp} (finmap.entries (finmap.insert objects name new)) ≡ objects)
same_at (Ok x) objects name old new there is = tt
same_at (Err x) objects name old new there is = contents-entries _ ∙ ap (finmap.insert objects name) is ∙ written_back objects name old (sym there)

pub added : (before objects : Objects) (key name : List ℕ) (op : WriteOp) (new : Omap) → before ≡ objects → key ≡ name → finmap.get objects name ≡ None → new ≡ applied op empty_omap
    → finmap.insert before key new ≡ written objects name op
unfolding written
added before objects key name op new same is_name absent is =
    ap (λ m. finmap.insert m key new) same ∙ ap (λ k. finmap.insert objects k new) is_name
    ∙ ap (finmap.insert objects name) (is ∙ ap (λ o. applied op (unwrap_or o empty_omap)) (sym absent))

-- as many names as there are objects are all of them
pub all_names : (objects : Objects) (rest : List (List ℕ × Omap)) (n : ℕ) → rest ≡ finmap.entries objects → n ≡ finmap.len objects → take n (map (λ e. e.0) rest) ≡ finmap.keys objects
all_names objects rest n is all =
    take_all n _ (omega (arith, length-map rest (λ e. e.0), ap length is, all, len-entries objects)) ∙ ap (map (λ e. e.0)) is
