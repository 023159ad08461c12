-- Items in chunks, of at most 64 each.
use Rattle.std.specs.Prelude.{◌≡◌, ℕ, zero, suc, ◌+◌, ◌-◌, ◌*◌, ◌<◌, ◌≤◌, List, [], ◌∷◌, ◌++◌, length, ⊤, refl}
use Rattle.std.specs.Coded.{Coded, code_by, coded×, coded_list, coded_ℕ}

-- the chunks in their order, and how many empty ones are kept beside them
pub record Chunked (A : Type 0) : Type 0 where
  pub lists : List (List A)
  pub spare : ℕ

module _ {A : Type 0} where
  abbrev pub chunked_code : Coded A → Coded (Chunked A)
  chunked_code a =
      code_by (List (List A)
      × ℕ) (coded× (coded_list (coded_list a)) coded_ℕ) (λ s. (s.lists, s.spare)) (λ p. record {
        lists = p.0;
        spare =
            p.1;
      }) (λ _. refl)

  -- all the items in their order
  abbrev pub flat : List (List A) → List A
  flat [] = []
  flat (c ∷ cs) = c ++ flat cs

  -- how many items stand before chunk i
  abbrev pub items_before : List (List A) → ℕ → ℕ
  items_before [] i = 0
  items_before (c ∷ cs) zero = 0
  items_before (c ∷ cs) (suc i) = length c + items_before cs i

  -- no chunk is empty
  abbrev pub AllSome : List (List A) → Type 0
  AllSome [] = ⊤
  AllSome (c ∷ cs) = (0 < length c) × AllSome cs

  -- each chunk has at most 64 items
  abbrev pub AllFew : List (List A) → Type 0
  AllFew [] = ⊤
  AllFew (c ∷ cs) = (length c ≤ 64) × AllFew cs

  -- a number of each chunk, added up
  abbrev pub total : (List A → ℕ) → List (List A) → ℕ
  total f [] = 0
  total f (c ∷ cs) = f c + total f cs

  -- how many items the chunks have beyond their halves
  abbrev pub over : List (List A) → ℕ
  over cs = total (λ c. length c - 32) cs

  -- len and extra are how many items the chunks have, and how many beyond their halves
  pub record AreLengths (cs : List (List A)) (len extra : ℕ) : Type 0 where
    pub whole : len ≡ total length cs
    pub beyond : extra ≡ over cs
    pub few : AllFew cs

  -- how many places of all halves are taken: beyond its own half each chunk takes from those that are still to come,
  -- and of the last each item counts, since it may be left full where another chunk is opened behind it; where there is
  -- no chunk yet, one half for the first
  abbrev pub load : List (List A) → ℕ
  load [] = 32
  load (c ∷ []) = length c
  load (c ∷ d ∷ cs) = (length c - 32) + load (d ∷ cs)

-- how many insertions surely fit: one for each spare chunk, and where chunks are not much more than half full, one for
-- each place that is left in a half for each spare one and one more, since each chunk that is split leaves two halves
abbrev pub room_by : ℕ → ℕ → ℕ
room_by spare load = spare + (((32 * spare + 32) - load) - spare)

-- how many insertions fit into a row
abbrev pub room_in : {A : Type 0} → Chunked A → ℕ
room_in c = room_by c.spare (load c.lists)

-- the pairs with another value at a place
abbrev pub with_value : {K V : Type 0} → List (K × V) → ℕ → V → List (K × V)
with_value [] at w = []
with_value (e ∷ es) zero w = (e.0, w) ∷ es
with_value (e ∷ es) (suc at) w = e ∷ with_value es at w
