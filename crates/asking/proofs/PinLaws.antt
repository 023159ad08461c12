-- What grants for one request make of the grants.
use Rattle.asking.proofs.Common.{Bool, Contains, Leaf, List, Pin, [], and_from, ap, append-nil, cond, cond_both, filter-append, first_or_later, grant_of, inl, inr, is_for, is_on, is_same_grant, is_same, left_without, list_any, list_any-append, none_in, not, or_left, or_right, refl, subst, true, with_grants, with_grant, ℕ, ◌++◌, ◌∙◌, ◌∷◌, ◌≡◌}

on_itself : (pin : Pin) → is_on pin.dir pin.frag pin ≡ true
on_itself pin = and_from _ _ (is_same pin.dir.0 pin.dir.0 refl) (and_from _ _ (is_same pin.frag.value pin.frag.value refl) (is_same pin.frag.bits pin.frag.bits refl))

for_itself : (leaf : Leaf) (client tid : ℕ) → is_for client tid (grant_of leaf client tid) ≡ true
for_itself leaf client tid = and_from _ _ (is_same client client refl) (is_same tid tid refl)

pin_itself : (pin : Pin) → is_same_grant pin pin ≡ true
pin_itself pin = and_from _ _ (on_itself pin) (and_from _ _ (is_same pin.client pin.client refl) (is_same pin.tid pin.tid refl))

-- one more grant: those that stood stand,
kept_pin : (pins : List Pin) (pin p : Pin) → list_any (is_same_grant p) pins ≡ true → list_any (is_same_grant p) (with_grant pins pin) ≡ true
kept_pin pins pin p stands =
    cond_both (list_any (is_same_grant pin) pins) pins (pins ++ pin ∷ []) (λ (ps : List Pin). list_any (is_same_grant p) ps ≡ true) (λ e. stands)
    (λ e. list_any-append (is_same_grant p) pins (pin ∷ []) ∙ or_left _ _ stands)

-- it stands,
new_pin : (pins : List Pin) (pin : Pin) → list_any (is_same_grant pin) (with_grant pins pin) ≡ true
new_pin pins pin =
    cond_both (list_any (is_same_grant pin) pins) pins (pins ++ pin ∷ []) (λ (ps : List Pin). list_any (is_same_grant pin) ps ≡ true) (λ e. e)
    (λ e. list_any-append (is_same_grant pin) pins (pin ∷ []) ∙ or_right _ _ (or_left _ _ (pin_itself pin)))

-- and where it ends those for others are left
pin_without : (pins : List Pin) (leaf : Leaf) (client tid : ℕ) → left_without (is_for client tid) (with_grant pins (grant_of leaf client tid)) ≡ left_without (is_for client tid) pins
pin_without pins leaf client tid =
    let pin : Pin = grant_of leaf client tid in
    cond_both (list_any (is_same_grant pin) pins) pins (pins ++ pin ∷ []) (λ (ps : List Pin). left_without (is_for client tid) ps ≡ left_without (is_for client tid) pins) (λ e. refl)
    (λ e. filter-append (λ (p : Pin). not (is_for client tid p)) pins (pin ∷ [])
    ∙ ap (λ (b : Bool). left_without (is_for client tid) pins ++ cond (not b) (pin ∷ []) []) (for_itself leaf client tid) ∙ append-nil (left_without (is_for client tid) pins))

-- a grant is kept where several others are added
pub grants_keep : (leaves : List Leaf) (pins : List Pin) (client tid : ℕ) (p : Pin) → list_any (is_same_grant p) pins ≡ true → list_any (is_same_grant p) (with_grants pins leaves client tid) ≡ true
grants_keep [] pins client tid p stands = stands
grants_keep (leaf ∷ leaves) pins client tid p stands = grants_keep leaves (with_grant pins (grant_of leaf client tid)) client tid p (kept_pin pins (grant_of leaf client tid) p stands)

pub grants_have : (leaves : List Leaf) (pins : List Pin) (client tid : ℕ) (leaf : Leaf) → Contains leaves leaf → list_any (is_same_grant (grant_of leaf client tid)) (with_grants pins leaves client tid) ≡ true
grants_have [] pins client tid leaf has = absurd (none_in leaf has)
grants_have (one ∷ leaves) pins client tid leaf has = elim (first_or_later one leaf leaves has) [
  | inl same ↦
      grants_keep leaves (with_grant pins (grant_of one client tid)) client tid (grant_of leaf client tid)
      (subst (λ (l : Leaf). list_any (is_same_grant (grant_of l client tid)) (with_grant pins (grant_of one client tid)) ≡ true) same (new_pin pins (grant_of one client tid)))
  | inr more ↦ grants_have leaves (with_grant pins (grant_of one client tid)) client tid leaf more
]

pub grants_without : (leaves : List Leaf) (pins : List Pin) (client tid : ℕ) → left_without (is_for client tid) (with_grants pins leaves client tid) ≡ left_without (is_for client tid) pins
grants_without [] pins client tid = refl
grants_without (leaf ∷ leaves) pins client tid = grants_without leaves (with_grant pins (grant_of leaf client tid)) client tid ∙ pin_without pins leaf client tid
