-- Words of leaves that tile the hashes, read one after the other.
use Rattle.dirfrag_codec.proofs.Common.{AreTilesFrom, AreTreeOf, BeginsWith, BeginsWithNone, Bool, Decodes, EndsAt, Fragment, IsFragment, IsSome, IsTrue, List, None, Option, Some, SpellsTree, Tiles, [], ap, arith, eq-eqb, eqb, false, flat_map, flat_map-cons, leaf_bytes, length, little_bytes, nil_from_length, none-some, number_at, refl, same_Some, span, subst, sym, tree_of_bytes, true, word_of, words_at, ℕ, ◌*◌, ◌++◌, ◌+◌, ◌^◌, ◌↔◌, ◌∙◌, ◌∷◌, ◌≡◌, ◌≤◌}
use Rattle.std.proofs.Common.{eqb-true}
use Rattle.dirfrag_codec.proofs.Front.{IsBytes, number_again, number_takes, width_4}
use Rattle.dirfrag_codec.proofs.TreeLaws.{four_each, fragments_of, one_fragment, some_word, tree_decoded, word_low, words_of_tree}
use Rattle.dirfrag_codec.proofs.ValueLaws.{reads_tree}

-- the word that bytes begin with
begun : (bytes after : List ℕ) (low : ℕ) (leaf : Fragment) → BeginsWith bytes low leaf after → number_at 4 bytes ≡ Some (word_of leaf, after)
begun bytes after low leaf h = ap (number_at 4) h.parts ∙ number_again 4 (word_of leaf) after (word_low leaf h.fragment)

-- bytes begin with one fragment at most, and go on in one way
pub one_front : (bytes : List ℕ) (low from : ℕ) (one other : Fragment) (after rest : List ℕ) → BeginsWith bytes low one after → BeginsWith bytes from other rest → (one ≡ other) × (after ≡ rest)
one_front bytes low from one other after rest h k =
    let w = some_word (word_of one, after) (word_of other, rest) (sym (begun bytes after low one h) ∙ begun bytes rest from other k) in
    (one_fragment one other h.fragment k.fragment w.0, w.1)

-- what begins with a leaf tiles the hashes from its value on where what follows does so from its end on
pub tiles_on : (bytes after : List ℕ) (low : ℕ) (leaf : Fragment) → BeginsWith bytes low leaf after → AreTilesFrom (leaf.value + span leaf.bits) after ↔ AreTilesFrom low bytes
tiles_on bytes after low leaf h = (with_it, without_it)
  where
    with_it : AreTilesFrom (leaf.value + span leaf.bits) after → AreTilesFrom low bytes
    with_it (leaves, tiles, is) = (
      leaf ∷ leaves,
      (h.fragment, h.begins, subst (λ (n : ℕ). Tiles (n + span leaf.bits) (2 ^ 24) leaves) h.begins tiles),
      h.parts ∙ ap (λ (x : List ℕ). leaf_bytes leaf ++ x) is ∙ sym (flat_map-cons leaf_bytes leaf leaves),
    )

    without_it : AreTilesFrom low bytes → AreTilesFrom (leaf.value + span leaf.bits) after
    without_it ([], tiles, is) = let clash : leaf_bytes leaf ++ after ≡ [] = sym h.parts ∙ is in absurd cc
    without_it (f ∷ fs, tiles, is) =
        let front : BeginsWith bytes low f (flat_map leaf_bytes fs) = record { fragment = tiles.0; begins = tiles.1; parts = is ∙ flat_map-cons leaf_bytes f fs } in
        let w = one_front bytes low low f leaf (flat_map leaf_bytes fs) after front h in
        let ends : low + span f.bits ≡ leaf.value + span leaf.bits = ap (λ (n : ℕ). n + span f.bits) (sym h.begins) ∙ ap (λ (g : Fragment). leaf.value + span g.bits) w.0 in
        (fs, subst (λ (n : ℕ). Tiles n (2 ^ 24) fs) ends tiles.2, sym w.1)

-- nothing is left: it tiles the hashes where they are at their end
pub tiles_end : (bytes : List ℕ) (low : ℕ) → bytes ≡ [] → low ≡ 2 ^ 24 → AreTilesFrom low bytes
tiles_end bytes low none at = ([], at, none)

-- what begins with no leaf tiles the hashes only where nothing is left, at their end
pub tiles_ended : (bytes : List ℕ) (low : ℕ) → BeginsWithNone bytes low → AreTilesFrom low bytes → (bytes ≡ []) × (low ≡ 2 ^ 24)
tiles_ended bytes low none ([], tiles, is) = (is, tiles)
tiles_ended bytes low none (f ∷ fs, tiles, is) = absurd (none f (flat_map leaf_bytes fs) (record { fragment = tiles.0; begins = tiles.1; parts = is ∙ flat_map-cons leaf_bytes f fs }))

module _ (words rest : List ℕ) (low : ℕ) (so_far : AreTilesFrom low rest ↔ AreTilesFrom 0 words) where
  -- the next leaf is taken
  pub tiles_kept : (after : List ℕ) (next : ℕ) → EndsAt rest low next after → AreTilesFrom next after ↔ AreTilesFrom 0 words
  tiles_kept after next (leaf, h, end) =
      let step = tiles_on rest after low leaf h in (
        λ t. so_far.0 (step.0 (subst (λ (n : ℕ). AreTilesFrom n after) end t)),
        λ t. subst (λ (n : ℕ). AreTilesFrom n after) (sym end) (step.1 (so_far.1 t)),
      )

  -- no leaf is left: all are taken where nothing is left, at the end of the hashes
  pub tiles_told : (empty : Bool) → BeginsWithNone rest low → empty ≡ eqb (length rest) 0 → empty ≡ true → IsTrue (eqb low (2 ^ 24)) ↔ AreTilesFrom 0 words
  tiles_told empty none told is = (
    λ at. so_far.0 (tiles_end rest low (nil_from_length rest (eqb-true (length rest) 0 (sym told ∙ is))) (eqb-true low (2 ^ 24) at)),
    λ t. eq-eqb low (2 ^ 24) (tiles_ended rest low none (so_far.1 t)).1,
  )

  pub tiles_cut_off : (empty : Bool) → BeginsWithNone rest low → empty ≡ eqb (length rest) 0 → empty ≡ false → IsTrue empty ↔ AreTilesFrom 0 words
  tiles_cut_off empty none told is = (
    λ yes. let clash : true ≡ false = sym yes ∙ is in absurd cc,
    λ t. told ∙ eq-eqb (length rest) 0 (ap (length {A = ℕ}) (tiles_ended rest low none (so_far.1 t)).0),
  )

-- leaves that tile all hashes are a tree's where they are few
pub tree_of_tiles : (words : List ℕ) → length words ≤ 4 * 4096 → AreTilesFrom 0 words ↔ AreTreeOf words
tree_of_tiles words few = (to_tree, to_tiles)
  where
    to_tree : AreTilesFrom 0 words → AreTreeOf words
    to_tree (leaves, tiles, is) = (leaves, record { tiles = tiles; few = omega (arith, few, ap (length {A = ℕ}) is, four_each leaves) }, is)

    to_tiles : AreTreeOf words → AreTilesFrom 0 words
    to_tiles (leaves, tree, is) = (leaves, tree.tiles, is)

pub too_many : (words : List ℕ) → 4 * 4096 + 1 ≤ length words → IsTrue false ↔ AreTreeOf words
too_many words many = (λ told. absurd cc, none)
  where
    none : AreTreeOf words → IsTrue false
    none (leaves, tree, is) = absurd (omega (arith, many, ap (length {A = ℕ}) is, four_each leaves, tree.few))

-- the words that bytes state are a tree's where the bytes are, and only there
pub no_tree : (bytes words : List ℕ) → words_at bytes ≡ Some words → (AreTreeOf words → ⊥) → Decodes SpellsTree bytes None
no_tree bytes words read none leaves s = none (leaves, s.tree, same_Some words (flat_map leaf_bytes leaves) (sym read ∙ words_of_tree bytes leaves s))

pub some_tree : (bytes words : List ℕ) → IsBytes bytes → words_at bytes ≡ Some words → AreTreeOf words → IsSome (tree_of_bytes bytes)
some_tree bytes words fits read (leaves, tree, is) = go (tree_of_bytes bytes) (reads_tree bytes)
  where
    spelled : SpellsTree bytes leaves
    spelled = tree_decoded bytes words leaves (Some leaves) fits read (fragments_of leaves tree) is (tree, refl)

    go : (answer : Option (List Fragment)) → Decodes SpellsTree bytes answer → IsSome answer
    go (Some found) d = refl
    go None d = absurd (d leaves spelled)
