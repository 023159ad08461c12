-- Items that rise, read one after another and not kept.
use Rattle.export_bytes.proofs.Common.{Bool, Fragment, List, None, Option, Some, [], after_rising, ap, arith, cond, false, follows, is_frag_before, is_name_before, items_at, named_as, none-some, option_map, place_of, refl, rise, same_Some, seen_by, sent_as, sent_frag_at, sent_name_at, suc, sym, sent_name_text, true, ℕ, ◌&&◌, ◌-◌, ◌<◌, ◌>>=◌, ◌∙◌, ◌∷◌, ◌≡◌}

module _ {A : Type 0} (is_before : A → A → Bool) (item_at : List ℕ → Option (A × List ℕ)) where
  -- what follows, once the items are there
  abbrev risen : Option A → Option (List A × List ℕ) → Option (List ℕ)
  risen last items = items >>= λ i. cond (rise is_before last i.0) (Some i.1) None

  abbrev with_first : A → Option (List A × List ℕ) → Option (List A × List ℕ)
  with_first x items = items >>= λ more. Some (x ∷ more.0, more.1)

  begun : (last : Option A) (n : ℕ) (bytes : List ℕ) (first : Option (A × List ℕ)) → item_at bytes ≡ first
      → after_rising is_before item_at last (suc n) bytes ≡ risen last (first >>= λ f. with_first f.0 (items_at item_at n f.1))
  begun last n bytes first read = ap (λ (r : Option (A × List ℕ)). risen last (r >>= λ f. with_first f.0 (items_at item_at n f.1))) read

  -- the one that stands there comes after the last
  pub one_rises : (last : Option A) (n : ℕ) (bytes after : List ℕ) (x : A) → item_at bytes ≡ Some (x, after) → follows is_before last x ≡ true
      → after_rising is_before item_at last (suc n) bytes ≡ after_rising is_before item_at (Some x) n after
  one_rises last n bytes after x read above = begun last n bytes (Some (x, after)) read ∙ go last above (items_at item_at n after)
    where
      go : (last : Option A) → follows is_before last x ≡ true → (items : Option (List A × List ℕ)) → risen last (with_first x items) ≡ risen (Some x) items
      go last above None = refl
      go None above (Some (xs, end)) = refl
      go (Some l) above (Some (xs, end)) = ap (λ (b : Bool). cond (b && rise is_before (Some x) xs) (Some end) None) above

  -- of the last one only its place in the order is asked
  pub same_rise : (x y : A) (n : ℕ) (bytes : List ℕ) → ((z : A) → is_before x z ≡ is_before y z) → after_rising is_before item_at (Some x) n bytes ≡ after_rising is_before item_at (Some y) n bytes
  same_rise x y n bytes alike = go (items_at item_at n bytes)
    where
      go : (items : Option (List A × List ℕ)) → risen (Some x) items ≡ risen (Some y) items
      go None = refl
      go (Some ([], end)) = refl
      go (Some (z ∷ zs, end)) = ap (λ (b : Bool). cond (b && rise is_before (Some z) zs) (Some end) None) (alike z)

-- items of which a part is seen, the one that the order asks for
module _ {A P : Type 0} (is_before : A → A → Bool) (item_at : List ℕ → Option (A × List ℕ)) (part : A → P) (made : P → A)
    (asked : (x z : A) → is_before x z ≡ is_before (made (part x)) z) (told : (l x : A) → is_before l (made (part x)) ≡ is_before l x) where
  abbrev pub seen : List ℕ → Option (P × List ℕ)
  seen bytes = seen_by part (item_at bytes)

  some_seen : (read : Option (A × List ℕ)) (p : P) (after : List ℕ) → seen_by part read ≡ Some (p, after) → (x : A) × (read ≡ Some (x, after)) × (part x ≡ p)
  some_seen None p after is = absurd (none-some (p, after) is)
  some_seen (Some (x, end)) p after is =
      let same : (part x, end) ≡ (p, after) = same_Some (part x, end) (p, after) is in
      (x, ap (λ (q : P × List ℕ). Some (x, q.1)) same, ap (λ (q : P × List ℕ). q.0) same)

  follows_alike : (last : Option A) (x : A) → follows is_before last (made (part x)) ≡ follows is_before last x
  follows_alike None x = refl
  follows_alike (Some l) x = told l x

  next : (left : ℕ) → 0 < left → left ≡ suc (left - 1)
  next left some = omega (arith, some)

  pub step_rises : (last : Option A) (left : ℕ) (bytes after : List ℕ) (p : P) → 0 < left → seen bytes ≡ Some (p, after) → follows is_before last (made p) ≡ true
      → after_rising is_before item_at last left bytes ≡ after_rising is_before item_at (Some (made p)) (left - 1) after
  step_rises last left bytes after p some is above =
      let w = some_seen (item_at bytes) p after is in
      let own : follows is_before last w.0 ≡ true = sym (follows_alike last w.0) ∙ ap (λ (q : P). follows is_before last (made q)) w.2 ∙ above in
      ap (λ (n : ℕ). after_rising is_before item_at last n bytes) (next left some)
      ∙ one_rises is_before item_at last (left - 1) bytes after w.0 w.1 own
      ∙ same_rise is_before item_at w.0 (made (part w.0)) (left - 1) after (asked w.0)
      ∙ ap (λ (q : P). after_rising is_before item_at (Some (made q)) (left - 1) after) w.2

-- names that rise, and fragments
pub name_rises : (last : Option (List ℕ)) (left : ℕ) (bytes after name : List ℕ) (total : Option (List ℕ)) → 0 < left → seen_by sent_name_text (sent_name_at bytes) ≡ Some (name, after)
    → follows is_name_before (option_map named_as last) (named_as name) ≡ true → after_rising is_name_before sent_name_at (option_map named_as last) left bytes ≡ total
    → after_rising is_name_before sent_name_at (Some (named_as name)) (left - 1) after ≡ total
name_rises last left bytes after name total some is above so_far =
    sym (step_rises is_name_before sent_name_at sent_name_text named_as (λ x z. refl) (λ l x. refl) (option_map named_as last) left bytes after name some is above) ∙ so_far

pub frag_rises : (last : Option (ℕ × Fragment)) (left : ℕ) (bytes after : List ℕ) (place : ℕ × Fragment) (total : Option (List ℕ)) → 0 < left → seen_by place_of (sent_frag_at bytes) ≡ Some (place, after)
    → follows is_frag_before (option_map sent_as last) (sent_as place) ≡ true → after_rising is_frag_before sent_frag_at (option_map sent_as last) left bytes ≡ total
    → after_rising is_frag_before sent_frag_at (Some (sent_as place)) (left - 1) after ≡ total
frag_rises last left bytes after place total some is above so_far =
    sym (step_rises is_frag_before sent_frag_at place_of sent_as (λ x z. refl) (λ l x. refl) (option_map sent_as last) left bytes after place some is above) ∙ so_far
