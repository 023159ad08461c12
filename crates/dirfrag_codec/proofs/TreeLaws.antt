-- The leaves that are read are those that are spelled so.
use Rattle.std.proofs.Common.{◌≡◌, ℕ, ◌+◌, ◌*◌, ◌^◌, ◌<◌, ◌≤◌, true, ◌&&◌, cond, ltb, eqb, List, [], ◌∷◌, ◌++◌, length, drop, Option, Some, None, Result, Ok, Err, IfOk, refl, sym, ap, subst, ◌∙◌, append_assoc, arith}
use Rattle.std.proofs.lemmas.Bool.{eqb-true, and_parts}
use Rattle.std.proofs.lemmas.Bool.Decides.{nat_tests}
use Rattle.std.proofs.lemmas.List.{append-nil, length-append, drop_at, nil_from_length}
use Rattle.std.proofs.lemmas.List.Concat.{flat_map-cons}
use Rattle.std.proofs.lemmas.Option.{cond_some, none-some, same_Some}
use Rattle.std.specs.List.{flat_map, AllByRecursion}
use Rattle.std.specs.Prelude.{SomeIff}
use Rattle.std.specs.declared.alloc.AllocError.{AllocError}
use Rattle.byteorder.specs.Endian.{little_bytes}
use Rattle.byteorder.specs.Numbers.{length-bytes_low_first}
use Rattle.mds_types.specs.Frag.{Fragment, IsFragment, word_of, span}
use Rattle.fragtree.specs.FragTree.{IsTree, Tiles}
use Rattle.dirfrag_codec.specs.Grammar.{Decodes}
use Rattle.dirfrag_codec.specs.Reading.{◌>>=◌, after_tag, number_at, words_at}
use Rattle.dirfrag_codec.specs.TreeObject.{SpellsTree, StatesLeaves, leaf_bytes, tree_bytes}
use Rattle.dirfrag_codec.proofs.Front.{IsBytes, IsBytes-drop, Takes-then, bind_some, number_again, number_takes, tag_takes, width_2, width_4}

pub word_low : (f : Fragment) → IsFragment f → word_of f < 256 ^ 4
word_low f h = omega (arith, h.few_bits, h.in_range)

pub one_fragment : (f g : Fragment) → IsFragment f → IsFragment g → word_of f ≡ word_of g → f ≡ g
one_fragment f g hf hg e i =
    let bits : f.bits ≡ g.bits = omega (arith, hf.in_range, hg.in_range, e) in
    let values : f.value ≡ g.value = omega (arith, hf.in_range, hg.in_range, e) in
    record { bits = bits i; value = values i }

-- the first word of leaves that are there
first_word : (f : Fragment) (fs : List Fragment) → IsFragment f → number_at 4 (flat_map leaf_bytes (f ∷ fs)) ≡ Some (word_of f, flat_map leaf_bytes fs)
first_word f fs h = ap (number_at 4) (flat_map-cons leaf_bytes f fs) ∙ number_again 4 (word_of f) (flat_map leaf_bytes fs) (word_low f h)

pub some_word : (p q : ℕ × List ℕ) → Some p ≡ Some q → (p.0 ≡ q.0) × (p.1 ≡ q.1)
some_word p q e = (ap (λ (r : ℕ × List ℕ). r.0) (same_Some p q e), ap (λ (r : ℕ × List ℕ). r.1) (same_Some p q e))

pub one_list : (fs gs : List Fragment) → AllByRecursion IsFragment fs → AllByRecursion IsFragment gs → flat_map leaf_bytes fs ≡ flat_map leaf_bytes gs → fs ≡ gs
one_list [] [] hf hg e = refl
one_list [] (g ∷ gs) hf hg e = absurd cc
one_list (f ∷ fs) [] hf hg e = absurd cc
one_list (f ∷ fs) (g ∷ gs) hf hg e =
    let w = some_word (word_of f, flat_map leaf_bytes fs) (word_of g, flat_map leaf_bytes gs) (sym (first_word f fs hf.0) ∙ ap (number_at 4) e ∙ first_word g gs hg.0) in
    let first : f ≡ g = one_fragment f g hf.0 hg.0 w.0 in
    let others : fs ≡ gs = one_list fs gs hf.1 hg.1 w.1 in
    ap (λ (h : Fragment). h ∷ fs) first ∙ ap (λ (hs : List Fragment). g ∷ hs) others

-- what goes on after some leaves is leaves again
rest_of : (fs gs : List Fragment) (rest : List ℕ) → AllByRecursion IsFragment gs → flat_map leaf_bytes fs ++ rest ≡ flat_map leaf_bytes gs
    → (hs : List Fragment) × AllByRecursion IsFragment hs × (rest ≡ flat_map leaf_bytes hs)
rest_of [] gs rest all e = (gs, all, e)
rest_of (f ∷ fs) [] rest all e = absurd cc
rest_of (f ∷ fs) (g ∷ gs) rest all e = rest_of fs gs rest all.1 (ap (drop 4) e)

-- the word at the front is no fragment's, or there is no whole word: then these are no leaves
pub no_fragment : (word : ℕ) (rest after : List ℕ) → number_at 4 rest ≡ Some (word, after) → ((f : Fragment) → IsFragment f → word_of f ≡ word → ⊥)
    → (hs : List Fragment) → AllByRecursion IsFragment hs → rest ≡ flat_map leaf_bytes hs → ⊥
no_fragment word rest after read none [] all e = none-some (word, after) (sym (ap (number_at 4) e) ∙ read)
no_fragment word rest after read none (h ∷ hs) all e =
    none h all.0 (some_word (word_of h, flat_map leaf_bytes hs) (word, after) (sym (first_word h hs all.0) ∙ ap (number_at 4) (sym e) ∙ read)).0

pub no_whole_word : (rest : List ℕ) → number_at 4 rest ≡ None → (rest ≡ [] → ⊥) → (hs : List Fragment) → AllByRecursion IsFragment hs → rest ≡ flat_map leaf_bytes hs → ⊥
no_whole_word rest read some [] all e = some e
no_whole_word rest read some (h ∷ hs) all e = none-some (word_of h, flat_map leaf_bytes hs) (sym read ∙ ap (number_at 4) e ∙ first_word h hs all.0)

-- where what is left is no leaves, the whole is none
pub none_from_rest : (words rest : List ℕ) (fs : List Fragment) → words ≡ flat_map leaf_bytes fs ++ rest → ((hs : List Fragment) → AllByRecursion IsFragment hs → rest ≡ flat_map leaf_bytes hs → ⊥)
    → (gs : List Fragment) → AllByRecursion IsFragment gs → words ≡ flat_map leaf_bytes gs → ⊥
none_from_rest words rest fs parts none gs all e =
    let w = rest_of fs gs rest all (sym parts ∙ e) in
    none w.0 w.1 w.2

push_all : (fs : List Fragment) (f : Fragment) → AllByRecursion IsFragment fs → IsFragment f → AllByRecursion IsFragment (fs ++ f ∷ [])
push_all [] f all h = (h, tt)
push_all (g ∷ fs) f all h = (all.0, push_all fs f all.1 h)

-- one leaf more is read
pub one_more : (words rest after : List ℕ) (word : ℕ) (fs : List Fragment) (f : Fragment) → IsBytes words → AllByRecursion IsFragment fs → words ≡ flat_map leaf_bytes fs ++ rest → number_at 4 rest ≡ Some (word, after)
    → IsFragment f → word_of f ≡ word → AllByRecursion IsFragment (fs ++ f ∷ []) × (words ≡ flat_map leaf_bytes (fs ++ f ∷ []) ++ after)
one_more words rest after word fs f bytes all parts read h same =
    let behind : drop (length (flat_map leaf_bytes fs)) words ≡ rest = ap (drop (length (flat_map leaf_bytes fs))) parts ∙ drop_at (flat_map leaf_bytes fs) rest (length (flat_map leaf_bytes fs)) refl in
    let fits : IsBytes rest = subst IsBytes behind (IsBytes-drop (length (flat_map leaf_bytes fs)) words bytes) in
    let taken : rest ≡ little_bytes 4 word ++ after = (number_takes 4 width_4 rest word after fits read).0.parts in
    let own : rest ≡ leaf_bytes f ++ after = subst (λ (w : ℕ). rest ≡ little_bytes 4 w ++ after) (sym same) taken in
    let pushed : flat_map leaf_bytes (fs ++ f ∷ []) ≡ flat_map leaf_bytes fs ++ leaf_bytes f = flat_map_push fs f in
    (push_all fs f all h, parts ∙ ap (λ (x : List ℕ). flat_map leaf_bytes fs ++ x) own ∙ sym (append_assoc (flat_map leaf_bytes fs) (leaf_bytes f) after) ∙ ap (λ (x : List ℕ). x ++ after) (sym pushed))
  where
    flat_map_push : (fs : List Fragment) (f : Fragment) → flat_map leaf_bytes (fs ++ f ∷ []) ≡ flat_map leaf_bytes fs ++ leaf_bytes f
    flat_map_push [] f = flat_map-cons leaf_bytes f [] ∙ append-nil (leaf_bytes f)
    flat_map_push (g ∷ fs) f = flat_map-cons leaf_bytes g (fs ++ f ∷ []) ∙ ap (λ (x : List ℕ). leaf_bytes g ++ x) (flat_map_push fs f) ∙ sym (append_assoc (leaf_bytes g) (flat_map leaf_bytes fs) (leaf_bytes f)) ∙ ap (λ (x : List ℕ). x ++ leaf_bytes f) (sym (flat_map-cons leaf_bytes g fs))

-- ---- the whole

all_fragments : (low high : ℕ) (fs : List Fragment) → Tiles low high fs → AllByRecursion IsFragment fs
all_fragments low high [] t = tt
all_fragments low high (f ∷ fs) t = (t.0, all_fragments (low + span f.bits) high fs t.2)

pub fragments_of : (fs : List Fragment) → IsTree fs → AllByRecursion IsFragment fs
fragments_of fs tree = all_fragments 0 (2 ^ 24) fs tree.tiles

pub four_each : (fs : List Fragment) → length (flat_map leaf_bytes fs) ≡ 4 * length fs
four_each [] = refl
four_each (f ∷ fs) =
    let e : length (flat_map leaf_bytes (f ∷ fs)) ≡ length (leaf_bytes f ++ flat_map leaf_bytes fs) = ap (length {A = ℕ}) (flat_map-cons leaf_bytes f fs) in
    omega (arith, e, length-append (leaf_bytes f) (flat_map leaf_bytes fs), length-bytes_low_first 0 4 (word_of f), four_each fs)

several_from_test : (n : ℕ) → ltb 1 n ≡ true → 2 ≤ n
several_from_test n e = grind (arith, nat_tests)

pub words_takes : (bytes words : List ℕ) → IsBytes bytes → words_at bytes ≡ Some words → (s : StatesLeaves bytes) × (s.words ≡ words)
unfolding words_at
words_takes bytes words fits e =
    let a = bind_some (after_tag 84 1 bytes) (λ tagged. number_at 2 tagged >>= λ count. cond (ltb 1 count.0 && eqb (length count.1) (4 * count.0)) (Some count.1) None) words e in
    let b = bind_some (number_at 2 a.0) (λ count. cond (ltb 1 count.0 && eqb (length count.1) (4 * count.0)) (Some count.1) None) words a.2 in
    let g = cond_some (ltb 1 b.0.0 && eqb (length b.0.1) (4 * b.0.0)) b.0.1 words b.2 in
    let w = and_parts (ltb 1 b.0.0) (eqb (length b.0.1) (4 * b.0.0)) g.0 in
    let t0 = tag_takes 84 1 bytes a.0 fits a.1 in
    let t1 = number_takes 2 width_2 a.0 b.0.0 b.0.1 t0.rest_fits b.1 in
    let whole = Takes-then bytes (84 ∷ 1 ∷ []) a.0 (little_bytes 2 b.0.0) b.0.1 t0 t1.0 in
    (record { count = b.0.0; words = b.0.1; several = several_from_test b.0.0 w.0; whole = eqb-true (length b.0.1) (4 * b.0.0) w.1; spelled = whole.parts }, g.1)

words_chain : (t0 words : List ℕ) (count : ℕ) → number_at 2 t0 ≡ Some (count, words) → ltb 1 count ≡ true → eqb (length words) (4 * count) ≡ true → words_at (84 ∷ 1 ∷ t0) ≡ Some words
unfolding words_at
words_chain t0 words count e several len = rw (e, several, len) refl

words_again : (leaves : List Fragment) → length leaves ≤ 4096 → 2 ≤ length leaves → words_at (tree_bytes leaves) ≡ Some (flat_map leaf_bytes leaves)
words_again leaves few several =
    let len = four_each leaves in
    words_chain (little_bytes 2 (length leaves) ++ flat_map leaf_bytes leaves) (flat_map leaf_bytes leaves) (length leaves)
    (number_again 2 (length leaves) (flat_map leaf_bytes leaves) (omega (arith, few))) (grind (arith, nat_tests)) (grind (arith, nat_tests))

pub words_of_tree : (bytes : List ℕ) (leaves : List Fragment) → SpellsTree bytes leaves → words_at bytes ≡ Some (flat_map leaf_bytes leaves)
words_of_tree bytes leaves s = ap words_at s.spelled ∙ words_again leaves s.tree.few s.several

-- ---- what is decoded

pub tree_refused : (bytes : List ℕ) → words_at bytes ≡ None → Decodes SpellsTree bytes None
tree_refused bytes read leaves s = none-some (flat_map leaf_bytes leaves) (sym read ∙ words_of_tree bytes leaves s)

pub leaves_refused : (bytes words : List ℕ) → words_at bytes ≡ Some words → ((leaves : List Fragment) → AllByRecursion IsFragment leaves → words ≡ flat_map leaf_bytes leaves → ⊥) → Decodes SpellsTree bytes None
leaves_refused bytes words read none leaves s =
    none leaves (fragments_of leaves s.tree) (same_Some words (flat_map leaf_bytes leaves) (sym read ∙ words_of_tree bytes leaves s))

pub tree_decoded : (bytes words : List ℕ) (leaves : List Fragment) (answer : Option (List Fragment)) → IsBytes bytes → words_at bytes ≡ Some words → AllByRecursion IsFragment leaves → words ≡ flat_map leaf_bytes leaves
    → SomeIff answer (IsTree leaves) leaves → Decodes SpellsTree bytes answer
tree_decoded bytes words leaves (Some tree) fits read all parts h =
    let w = words_takes bytes words fits read in
    let count : w.0.count ≡ length leaves = omega (arith, w.0.whole, ap (length {A = ℕ}) (w.1 ∙ parts), four_each leaves) in
    let spelled : bytes ≡ tree_bytes leaves = w.0.spelled ∙ ap (λ (x : List ℕ). 84 ∷ 1 ∷ (little_bytes 2 w.0.count ++ x)) w.1 ∙ ap (λ (n : ℕ). 84 ∷ 1 ∷ (little_bytes 2 n ++ words)) count ∙ ap (λ (x : List ℕ). 84 ∷ 1 ∷ (little_bytes 2 (length leaves) ++ x)) parts in
    subst (SpellsTree bytes) (sym h.1) (record { tree = h.0; several = omega (arith, w.0.several, count); spelled = spelled })
tree_decoded bytes words leaves None fits read all parts h = λ others s.
    let same : flat_map leaf_bytes leaves ≡ flat_map leaf_bytes others = sym parts ∙ same_Some words (flat_map leaf_bytes others) (sym read ∙ words_of_tree bytes others s) in
    h (subst IsTree (sym (one_list leaves others all (fragments_of others s.tree) same)) s.tree)

-- the same where memory may be wanting for the tree
pub tree_made : (bytes words : List ℕ) (leaves : List Fragment) (made : Result (Option (List Fragment)) AllocError) → IsBytes bytes → words_at bytes ≡ Some words → AllByRecursion IsFragment leaves → words ≡ flat_map leaf_bytes leaves
    → IfOk made (λ answer. SomeIff answer (IsTree leaves) leaves) → IfOk made (Decodes SpellsTree bytes)
tree_made bytes words leaves (Ok answer) fits read all parts h = tree_decoded bytes words leaves answer fits read all parts h
tree_made bytes words leaves (Err e) fits read all parts h = tt

-- ---- the laws of the grammar

pub one_tree : (bytes : List ℕ) (a b : List Fragment) → SpellsTree bytes a → SpellsTree bytes b → a ≡ b
one_tree bytes a b s t =
    one_list a b (fragments_of a s.tree) (fragments_of b t.tree)
    (same_Some (flat_map leaf_bytes a) (flat_map leaf_bytes b) (sym (words_of_tree bytes a s) ∙ words_of_tree bytes b t))

pub no_tree_begins_another : (bytes more : List ℕ) (a b : List Fragment) → SpellsTree bytes a → SpellsTree (bytes ++ more) b → more ≡ []
no_tree_begins_another bytes more a b s t =
    let words = flat_map leaf_bytes a in
    let longer : little_bytes 2 (length a) ++ (words ++ more) ≡ little_bytes 2 (length b) ++ flat_map leaf_bytes b =
    sym (append_assoc (little_bytes 2 (length a)) words more) ∙ ap (drop 2) (ap (λ (x : List ℕ). x ++ more) (sym s.spelled) ∙ t.spelled) in
    let w = some_word (length a, words ++ more) (length b, flat_map leaf_bytes b)
    (sym (number_again 2 (length a) (words ++ more) (omega (arith, s.tree.few))) ∙ ap (number_at 2) longer ∙ number_again 2 (length b) (flat_map leaf_bytes b) (omega (arith, t.tree.few))) in
    let len : length (words ++ more) ≡ length (flat_map leaf_bytes b) = ap (length {A = ℕ}) w.1 in
    nil_from_length more (omega (arith, len, length-append words more, four_each a, four_each b, w.0))
