-- What the counts and the pins of a table's rows say of the rows.
use Rattle.inode_table.proofs.Common.{Counts, Directory, None, Option, Rank, DirRows, Some, ap, count_of, counts_with_root, get_beside, get_put, option_map, or_first, or_zero, pin_in, pinned_at, refl, sym, ℕ, ◌∙◌, ◌≡◌}
use Rattle.std.specs.FinMap as map
use Rattle.inode_table.specs.Rows.{counts_below, pins_of}
use Rattle.inode_table.proofs.RowLaws.{get_part, get_taken, part_cleared, part_kept, part_left, part_none, part_put, put_again, put_and_gone, put_both}

-- ---- the counts

-- how many entries the directory of a row has
abbrev pub count_in : Option Directory → Option ℕ
count_in row = option_map (λ (r : Directory). r.entries) row

get_count : (rows : DirRows) (d : ℕ) → map.get (counts_below rows) d ≡ count_in (map.get rows d)
unfolding counts_below
get_count rows d = get_taken (λ (r : Directory). r.entries) rows d

pub no_counts : counts_with_root 0 map.empty ≡ map.insert map.empty 1 0
no_counts = ap (λ (m : Counts). map.insert m 1 0) (part_none counts_below count_in get_count refl)

module _ (root : ℕ) (rows : DirRows) (d : ℕ) where
  pub count_at_root : d ≡ 1 → count_of (counts_with_root root rows) d ≡ root
  count_at_root top = ap (count_of (counts_with_root root rows)) top ∙ ap or_zero (get_put (counts_below rows) 1 root)

  pub count_at_row : (d ≡ 1 → ⊥) → count_of (counts_with_root root rows) d ≡ or_zero (count_in (map.get rows d))
  count_at_row other = ap or_zero (get_beside (counts_below rows) 1 root d other ∙ get_count rows d)

  -- the count of the root becomes another
  pub root_set : (now : ℕ) (g : ℕ → ℕ) → d ≡ 1 → now ≡ g root → counts_with_root now rows ≡ map.insert (counts_with_root root rows) d (g (count_of (counts_with_root root rows) d))
  root_set now g top is = put_again (counts_below rows) 1 root now ∙ (λ i. map.insert (counts_with_root root rows) (sym top i) ((is ∙ ap g (sym (count_at_root top))) i))

  -- a row is put, with its count; one that keeps its count keeps all counts
  pub counts_put : (row : Directory) (n : ℕ) → (d ≡ 1 → ⊥) → row.entries ≡ n → counts_with_root root (map.insert rows d row) ≡ map.insert (counts_with_root root rows) d n
  counts_put row n other has = ap (λ (m : Counts). map.insert m 1 root) (part_put counts_below count_in get_count rows d row n (ap Some has)) ∙ put_both (counts_below rows) 1 root d n other

  pub counts_kept : (row : Directory) → count_in (Some row) ≡ count_in (map.get rows d) → counts_with_root root (map.insert rows d row) ≡ counts_with_root root rows
  counts_kept row kept = ap (λ (m : Counts). map.insert m 1 root) (part_kept counts_below count_in get_count rows d row kept)

  pub counts_left : (d ≡ 1 → ⊥) → counts_with_root root (map.remove rows d) ≡ map.remove (counts_with_root root rows) d
  counts_left other = ap (λ (m : Counts). map.insert m 1 root) (part_left counts_below count_in get_count rows d refl) ∙ put_and_gone (counts_below rows) 1 root d other

-- ---- the pins

pub get_pin : (rows : DirRows) (d : ℕ) → map.get (pins_of rows) d ≡ pin_in (map.get rows d)
unfolding pins_of
get_pin rows d = get_part pin_in refl or_first (λ x. refl) rows d

pub no_pins : pins_of map.empty ≡ map.empty
no_pins = part_none pins_of pin_in get_pin refl

module _ (rows : DirRows) (d : ℕ) where
  -- a row is put with its pin; one that keeps its pin keeps all pins
  pub pins_put : (row : Directory) (pin : Option Rank) → row.settings.pin ≡ pin → pins_of (map.insert rows d row) ≡ pinned_at (pins_of rows) d pin
  pins_put row None has = part_cleared pins_of pin_in get_pin rows d row has
  pins_put row (Some rank) has = part_put pins_of pin_in get_pin rows d row rank has

  pub pins_kept : (row : Directory) → row.settings.pin ≡ pin_in (map.get rows d) → pins_of (map.insert rows d row) ≡ pins_of rows
  pins_kept row kept = part_kept pins_of pin_in get_pin rows d row kept

  pub pins_left : pins_of (map.remove rows d) ≡ map.remove (pins_of rows) d
  pins_left = part_left pins_of pin_in get_pin rows d refl
