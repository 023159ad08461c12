-- What the calls of a cache keep: the ties of all cached fragments to their objects, and the snapshots whose commits stand.
use Rattle.dentry_cache.proofs.Common.{AreBelow, Base, Bool, Cached, ChangedCanEnd, Fresh, Keeps, List, Mark, Marks, None, Option, Snap, Some, StandingIsUnclean, Stored, TakenCanEnd, ap, arith, counts_of, empty_of_len, eqb-true, false, get-empty, get_beside, get_put, inl, inr, is_clean_over, key_cmp, len-empty, marked, names_at, one_map, refl, same_or_apart, shown_over, subst, sym, true, ℕ, ◌<◌, ◌==◌, ◌∙◌, ◌≡◌, ◌⊎◌}
use Rattle.std.specs.FinMap as map
use Rattle.dentry_cache.specs.Ties.{IsStillDirty}
use Rattle.dentry_cache.proofs.TieLaws.{tied_show}

-- ---- a fragment with a snapshot that stands isn't clean

some_name : (dirty names : Marks) → Keeps dirty names → map.len dirty ≡ 0 → names ≡ map.empty
some_name dirty names keeps none = one_map _ _ (λ q. go q (map.get names q) refl ∙ sym (get-empty key_cmp q))
  where
    gone : (q : List ℕ) → map.get dirty q ≡ None
    gone q = ap (λ (m : Marks). map.get m q) (empty_of_len dirty none) ∙ get-empty key_cmp q

    go : (q : List ℕ) (then : Option Mark) → map.get names q ≡ then → map.get names q ≡ None
    go q None is = is
    go q (Some then) is = absurd (subst (λ (r : Option Mark). IsStillDirty r (Some then)) (gone q) (subst (IsStillDirty (map.get dirty q)) is (keeps q)))

unclean_at : (base : Base) (dirty names : Marks) → Keeps dirty names → is_clean_over base names ≡ false → is_clean_over base dirty ≡ false
unclean_at Fresh dirty names keeps unclean = refl
unclean_at (Stored version) dirty names keeps unclean = go (map.len dirty == 0) refl
  where
    go : (b : Bool) → (map.len dirty == 0) ≡ b → (map.len dirty == 0) ≡ false
    go false is = is
    go true is =
        let none : names ≡ map.empty = some_name dirty names keeps (eqb-true (map.len dirty) 0 is) in
        let zero : (map.len names == 0) ≡ true = ap (λ (m : Marks). map.len m == 0) none ∙ ap (λ (n : ℕ). n == 0) (len-empty key_cmp Mark) in
        let clash : true ≡ false = sym zero ∙ unclean in
        cc

pub standing_is_unclean : StandingIsUnclean
standing_is_unclean snapshot f object unclean c = unclean_at f.base f.dirty snapshot.names c.keeps (ap (λ (b : Base). is_clean_over b snapshot.names) (sym c.based) ∙ unclean)

-- ---- a snapshot that was just taken, and one of before a change

kept_itself : (mark : Option Mark) → IsStillDirty mark mark
kept_itself None = tt
kept_itself (Some mark) = λ same. refl

pub taken_can_end : TakenCanEnd
taken_can_end snapshot f object valid takes tie =
    record {
      valid = valid;
      based = ap (λ (s : Snap). s.base) takes;
      keeps = λ name. subst (λ (m : Marks). IsStillDirty (map.get f.dirty name) (map.get m name)) (sym (ap (λ (s : Snap). s.names) takes)) (kept_itself (map.get f.dirty name));
      counted = ap (λ (s : Snap). s.counts) takes ∙ ap counts_of (tied_show f object tie) ∙ sym (ap (λ (s : Snap). counts_of (shown_over s.base (names_at object) s.names)) takes);
    }

module _ (f : Cached) (name : List ℕ) (mark : Mark) (names : Marks) (below : AreBelow mark.version names) (keeps : Keeps f.dirty names) where
  newer : (q : List ℕ) (then : Option Mark) → map.get names q ≡ then → IsStillDirty (Some mark) then
  newer q None is = tt
  newer q (Some then) is = λ same. let less : then.version < mark.version = below q then is in absurd (omega (arith, less, same))

  keeps_now : Keeps (marked f name mark).dirty names
  keeps_now q = go (same_or_apart q name)
    where
      go : (q ≡ name) ⊎ (q ≡ name → ⊥) → IsStillDirty (map.get (map.insert f.dirty name mark) q) (map.get names q)
      go (inl same) =
          let here : map.get (map.insert f.dirty name mark) q ≡ Some mark = ap (λ (k : List ℕ). map.get (map.insert f.dirty name mark) k) same ∙ get_put f.dirty name mark in
          subst (λ (r : Option Mark). IsStillDirty r (map.get names q)) (sym here) (newer q (map.get names q) refl)
      go (inr apart) = subst (λ (r : Option Mark). IsStillDirty r (map.get names q)) (sym (get_beside f.dirty name mark q apart)) (keeps q)

pub changed_can_end : ChangedCanEnd
changed_can_end snapshot f object name mark below c = record { valid = c.valid; based = c.based; keeps = keeps_now f name mark snapshot.names below c.keeps; counted = c.counted }
