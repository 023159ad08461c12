-- What is read of an export is what stands there.
use Rattle.export_bytes.proofs.Common.{Base, Bool, Export, Fragment, Fresh, Front, Head, Inode, IsBytes, IsBytes-drop, List, None, Option, SentFrag, SentName, Some, SpellsExport, StatesHead, Stored, Takes, Takes-then, WritesEntry, [], after_tag, and_from, and_parts, ap, append-nil, append_assoc, arith, base_bytes, base_of, bind_some, byte_at, byte_takes, cond, cond_some, drop, entry_bytes, eqb, eqb-true, false, flat_map, frag_bytes, frag_of_word, word_fragment, guard_not, has_record, sent_inode_at, inode_bytes, is_base_of, is_frag_before, is_fragment, is_name, is_name_before, is_sendable, is_sent_frag, is_sent_name, is_written, items_at, length, length-take, list_all, little_bytes, lt-ltb, ltb, ltb-false, name_bytes, nil_from_length, not, number_at, number_takes, part_at, present_at, reads_written, refl, rise, same_Some, spelled_as, subst, suc, sym, tag_takes, take, take-append-drop, true, width_2, width_4, width_8, word_of, written_decides, written_of, ℕ, ◌&&◌, ◌++◌, ◌<◌, ◌>>=◌, ◌^◌, ◌∙◌, ◌∷◌, ◌≡◌, ◌≤◌}
use Rattle.export_bytes.specs.Reading.{front_at, head_at, name_at, parts_at, record_at, sent_frag_at, sent_name_at}
use Rattle.export_bytes.proofs.Items.{items_take}

part_takes : (n : ℕ) (bytes x rest : List ℕ) → IsBytes bytes → part_at n bytes ≡ Some (x, rest) → (length x ≡ n) × Takes bytes x rest
part_takes n bytes x rest fits read =
    let g = guard_not (ltb (length bytes) n) (take n bytes, drop n bytes) (x, rest) read in
    let long : n ≤ length bytes = ltb-false _ _ g.0 in
    let P : List ℕ × List ℕ → Type 0 = λ p. (length p.0 ≡ n) × Takes bytes p.0 p.1 in
    subst P g.1 (omega (arith, length-take n bytes), record { parts = sym (take-append-drop n bytes); rest_fits = IsBytes-drop n bytes fits })

name_takes : (bytes x rest : List ℕ) → IsBytes bytes → name_at bytes ≡ Some (x, rest) → (is_name x ≡ true) × Takes bytes (length x ∷ x) rest
unfolding name_at
name_takes bytes x rest fits read =
    let a = bind_some (byte_at bytes >>= λ len. part_at len.0 len.1) (λ part. cond (is_name part.0) (Some part) None) (x, rest) read in
    let b = bind_some (byte_at bytes) (λ len. part_at len.0 len.1) a.0 a.1 in
    let g = cond_some (is_name a.0.0) a.0 (x, rest) a.2 in
    let t = byte_takes bytes b.0.0 b.0.1 fits b.1 in
    let p = part_takes b.0.0 b.0.1 a.0.0 a.0.1 t.rest_fits b.2 in
    let whole : Takes bytes (b.0.0 ∷ a.0.0) a.0.1 = Takes-then bytes (b.0.0 ∷ []) b.0.1 a.0.0 a.0.1 t p.1 in
    let P : List ℕ × List ℕ → Type 0 = λ q. (is_name q.0 ≡ true) × Takes bytes (length q.0 ∷ q.0) q.1 in
    subst P g.1 (g.0, subst (λ (k : ℕ). Takes bytes (k ∷ a.0.0) a.0.1) (sym p.0) whole)

record_takes : (bytes : List ℕ) (inode : Inode) (rest : List ℕ) → IsBytes bytes → record_at bytes ≡ Some (inode, rest)
    → (is_written (entry_bytes inode) inode ≡ true) × Takes bytes (little_bytes 2 (length (entry_bytes inode)) ++ entry_bytes inode) rest
unfolding record_at
record_takes bytes inode rest fits read =
    let a = bind_some (number_at 2 bytes >>= λ len. part_at len.0 len.1) (λ part. written_of part.0 >>= λ i. Some (i, part.1)) (inode, rest) read in
    let b = bind_some (number_at 2 bytes) (λ len. part_at len.0 len.1) a.0 a.1 in
    let d = bind_some (written_of a.0.0) (λ i. Some (i, a.0.1)) (inode, rest) a.2 in
    let t = number_takes 2 width_2 bytes b.0.0 b.0.1 fits b.1 in
    let p = part_takes b.0.0 b.0.1 a.0.0 a.0.1 t.0.rest_fits b.2 in
    let s = spelled_as WritesEntry written_of reads_written a.0.0 d.0 d.1 in
    let whole = Takes-then bytes (little_bytes 2 b.0.0) b.0.1 a.0.0 a.0.1 t.0 p.1 in
    let own = subst (λ (k : ℕ). Takes bytes (little_bytes 2 k ++ a.0.0) a.0.1) (sym p.0) whole in
    let spelled = subst (λ (x : List ℕ). Takes bytes (little_bytes 2 (length x) ++ x) a.0.1) s.spelled own in
    let P : Inode × List ℕ → Type 0 = λ q. (is_written (entry_bytes q.0) q.0 ≡ true) × Takes bytes (little_bytes 2 (length (entry_bytes q.0)) ++ entry_bytes q.0) q.1 in
    subst P (same_Some (d.0, a.0.1) (inode, rest) d.2)
    ((written_decides (entry_bytes d.0) d.0).1 (record { allowed = s.allowed; widths = s.widths; spelled = refl }), spelled)

inode_takes : (bytes : List ℕ) (o : Option Inode) (rest : List ℕ) → IsBytes bytes → sent_inode_at bytes ≡ Some (o, rest) → (has_record o ≡ true) × Takes bytes (inode_bytes o) rest
inode_takes [] o rest fits read = absurd cc
inode_takes (byte ∷ more) o rest fits read = go (eqb byte 0) (eqb byte 1) refl refl read
  where
    go : (p q : Bool) → eqb byte 0 ≡ p → eqb byte 1 ≡ q → cond p (Some (None, more)) (cond q (present_at more) None) ≡ Some (o, rest) → (has_record o ≡ true) × Takes (byte ∷ more) (inode_bytes o) rest
    go true q hp hq e =
        let zero_byte : byte ≡ 0 = eqb-true byte 0 hp in
        let Q : Option Inode × List ℕ → Type 0 = λ r. (has_record r.0 ≡ true) × Takes (byte ∷ more) (inode_bytes r.0) r.1 in
        subst Q (same_Some (None, more) (o, rest) e) (refl, record { parts = ap (λ (b : ℕ). b ∷ more) zero_byte; rest_fits = λ i. fits (suc i) })
    go false true hp hq e =
        let one_byte : byte ≡ 1 = eqb-true byte 1 hq in
        let b = bind_some (record_at more) (λ i. Some (Some i.0, i.1)) (o, rest) e in
        let t = record_takes more b.0.0 b.0.1 (λ i. fits (suc i)) b.1 in
        let Q : Option Inode × List ℕ → Type 0 = λ r. (has_record r.0 ≡ true) × Takes (byte ∷ more) (inode_bytes r.0) r.1 in
        subst Q (same_Some (Some b.0.0, b.0.1) (o, rest) b.2) (t.0, record { parts = ap (λ (x : ℕ). x ∷ more) one_byte ∙ ap (λ (x : List ℕ). 1 ∷ x) t.1.parts; rest_fits = t.1.rest_fits })
    go false false hp hq e = absurd cc

pub sent_name_takes : (bytes : List ℕ) (s : SentName) (rest : List ℕ) → IsBytes bytes → sent_name_at bytes ≡ Some (s, rest) → (is_sent_name s ≡ true) × Takes bytes (name_bytes s) rest
unfolding sent_name_at
sent_name_takes bytes s rest fits read =
    let a = bind_some (name_at bytes) (λ n. sent_inode_at n.1 >>= λ i. Some ((n.0, i.0), i.1)) (s, rest) read in
    let b = bind_some (sent_inode_at a.0.1) (λ i. Some ((a.0.0, i.0), i.1)) (s, rest) a.2 in
    let n = name_takes bytes a.0.0 a.0.1 fits a.1 in
    let i = inode_takes a.0.1 b.0.0 b.0.1 n.1.rest_fits b.1 in
    let whole : Takes bytes (length a.0.0 ∷ (a.0.0 ++ inode_bytes b.0.0)) b.0.1 = Takes-then bytes (length a.0.0 ∷ a.0.0) a.0.1 (inode_bytes b.0.0) b.0.1 n.1 i.1 in
    let P : SentName × List ℕ → Type 0 = λ q. (is_sent_name q.0 ≡ true) × Takes bytes (name_bytes q.0) q.1 in
    subst P (same_Some ((a.0.0, b.0.0), b.0.1) (s, rest) b.2) (and_from (is_name a.0.0) (has_record b.0.0) n.0 i.0, whole)

-- ---- fragments

frag_takes : (word : ℕ) (f : Fragment) → frag_of_word word ≡ Some f → (is_fragment f ≡ true) × (word_of f ≡ word)
frag_takes word f e =
    let g = cond_some (is_fragment (word_fragment word)) (word_fragment word) f e in
    let same : word_of (word_fragment word) ≡ word = omega arith in
    let P : Fragment → Type 0 = λ h. (is_fragment h ≡ true) × (word_of h ≡ word) in
    subst P g.1 (g.0, same)

base_takes : (byte version : ℕ) (base : Base) → base_of byte version ≡ Some base → byte ∷ little_bytes 8 version ≡ base_bytes base
base_takes byte version base e = go (eqb byte 0 && eqb version 0) (eqb byte 1 && ltb 0 version) refl refl e
  where
    go : (p q : Bool) → (eqb byte 0 && eqb version 0) ≡ p → (eqb byte 1 && ltb 0 version) ≡ q → cond p (Some Fresh) (cond q (Some (Stored version)) None) ≡ Some base → byte ∷ little_bytes 8 version ≡ base_bytes base
    go true q hp hq e =
        let w = and_parts (eqb byte 0) (eqb version 0) hp in
        let zero_byte : byte ≡ 0 = eqb-true byte 0 w.0 in
        let no_version : version ≡ 0 = eqb-true version 0 w.1 in
        ap (λ (b : ℕ). b ∷ little_bytes 8 version) zero_byte ∙ ap (λ (v : ℕ). 0 ∷ little_bytes 8 v) no_version ∙ ap base_bytes (same_Some Fresh base e)
    go false true hp hq e =
        let w = and_parts (eqb byte 1) (ltb 0 version) hq in
        let one_byte : byte ≡ 1 = eqb-true byte 1 w.0 in
        ap (λ (b : ℕ). b ∷ little_bytes 8 version) one_byte ∙ ap base_bytes (same_Some (Stored version) base e)
    go false false hp hq e = absurd cc

record HeadTaken (bytes : List ℕ) (h : Head) (rest : List ℕ) : Type 0 where
  ino : h.ino < 2 ^ 64
  frag : is_fragment h.frag ≡ true
  based : is_base_of h.base h.count ≡ true
  few : h.count < 2 ^ 32
  taken : Takes bytes (little_bytes 8 h.ino ++ (little_bytes 4 (word_of h.frag) ++ (base_bytes h.base ++ little_bytes 4 h.count))) rest

-- what is read after each field
abbrev head_6 : ℕ → Fragment → Base → ℕ × List ℕ → Option (Head × List ℕ)
head_6 ino frag base count = cond (is_base_of base count.0) (Some (record { ino = ino; frag = frag; base = base; count = count.0 }, count.1)) None

abbrev head_5 : ℕ → Fragment → List ℕ → Base → Option (Head × List ℕ)
head_5 ino frag rest base = number_at 4 rest >>= head_6 ino frag base

abbrev head_4 : ℕ → Fragment → ℕ → ℕ × List ℕ → Option (Head × List ℕ)
head_4 ino frag byte version = base_of byte version.0 >>= head_5 ino frag version.1

abbrev head_3 : ℕ → Fragment → ℕ × List ℕ → Option (Head × List ℕ)
head_3 ino frag byte = number_at 8 byte.1 >>= head_4 ino frag byte.0

abbrev head_2 : ℕ → List ℕ → Fragment → Option (Head × List ℕ)
head_2 ino rest frag = byte_at rest >>= head_3 ino frag

abbrev head_1 : ℕ → ℕ × List ℕ → Option (Head × List ℕ)
head_1 ino word = frag_of_word word.0 >>= head_2 ino word.1

abbrev head_0 : ℕ × List ℕ → Option (Head × List ℕ)
head_0 ino = number_at 4 ino.1 >>= head_1 ino.0

head_joined : (bytes a b c d rest : List ℕ) (h : Head) (word byte version : ℕ) → word_of h.frag ≡ word → byte ∷ little_bytes 8 version ≡ base_bytes h.base → Takes bytes (little_bytes 8 h.ino) a → Takes a (little_bytes 4 word) b
    → Takes b (byte ∷ []) c → Takes c (little_bytes 8 version) d → Takes d (little_bytes 4 h.count) rest
    → Takes bytes (little_bytes 8 h.ino ++ (little_bytes 4 (word_of h.frag) ++ (base_bytes h.base ++ little_bytes 4 h.count))) rest
head_joined bytes a b c d rest h word byte version worded based t0 t1 t2 t3 t4 =
    let t23 : Takes b (byte ∷ little_bytes 8 version) d = Takes-then b (byte ∷ []) c (little_bytes 8 version) d t2 t3 in
    let of_base = subst (λ (x : List ℕ). Takes b x d) based t23 in
    let of_word = subst (λ (w : ℕ). Takes a (little_bytes 4 w) b) (sym worded) t1 in
    Takes-then bytes (little_bytes 8 h.ino) a (little_bytes 4 (word_of h.frag) ++ (base_bytes h.base ++ little_bytes 4 h.count)) rest t0
    (Takes-then a (little_bytes 4 (word_of h.frag)) b (base_bytes h.base ++ little_bytes 4 h.count) rest of_word
    (Takes-then b (base_bytes h.base) d (little_bytes 4 h.count) rest of_base t4))

head_takes : (bytes : List ℕ) (h : Head) (rest : List ℕ) → IsBytes bytes → head_at bytes ≡ Some (h, rest) → HeadTaken bytes h rest
unfolding head_at
head_takes bytes h rest fits read =
    let a = bind_some (number_at 8 bytes) head_0 (h, rest) read in
    let b = bind_some (number_at 4 a.0.1) (head_1 a.0.0) (h, rest) a.2 in
    let f = bind_some (frag_of_word b.0.0) (head_2 a.0.0 b.0.1) (h, rest) b.2 in
    let c = bind_some (byte_at b.0.1) (head_3 a.0.0 f.0) (h, rest) f.2 in
    let d = bind_some (number_at 8 c.0.1) (head_4 a.0.0 f.0 c.0.0) (h, rest) c.2 in
    let e = bind_some (base_of c.0.0 d.0.0) (head_5 a.0.0 f.0 d.0.1) (h, rest) d.2 in
    let n = bind_some (number_at 4 d.0.1) (head_6 a.0.0 f.0 e.0) (h, rest) e.2 in
    let made : Head = record { ino = a.0.0; frag = f.0; base = e.0; count = n.0.0 } in
    let g = cond_some (is_base_of e.0 n.0.0) (made, n.0.1) (h, rest) n.2 in
    let t0 = number_takes 8 width_8 bytes a.0.0 a.0.1 fits a.1 in
    let t1 = number_takes 4 width_4 a.0.1 b.0.0 b.0.1 t0.0.rest_fits b.1 in
    let w = frag_takes b.0.0 f.0 f.1 in
    let t2 = byte_takes b.0.1 c.0.0 c.0.1 t1.0.rest_fits c.1 in
    let t3 = number_takes 8 width_8 c.0.1 d.0.0 d.0.1 t2.rest_fits d.1 in
    let t4 = number_takes 4 width_4 d.0.1 n.0.0 n.0.1 t3.0.rest_fits n.1 in
    let P : Head × List ℕ → Type 0 = λ q. HeadTaken bytes q.0 q.1 in
    subst P g.1
    (record {
      ino = omega (arith, t0.1);
      frag = w.0;
      based = g.0;
      few = omega (arith, t4.1);
      taken = head_joined bytes a.0.1 b.0.1 c.0.1 d.0.1 n.0.1 made b.0.0 c.0.0 d.0.0 w.1 (base_takes c.0.0 d.0.0 e.0 e.1) t0.0 t1.0 t2 t3.0 t4.0;
    })

four_parts : (a b c d n : List ℕ) → (a ++ (b ++ (c ++ d))) ++ n ≡ a ++ (b ++ (c ++ (d ++ n)))
four_parts a b c d n = append_assoc a (b ++ (c ++ d)) n ∙ ap (λ (t : List ℕ). a ++ t) (append_assoc b (c ++ d) n) ∙ ap (λ (t : List ℕ). a ++ (b ++ t)) (append_assoc c d n)

-- a fragment that has such a head and such names may be sent
frag_sent : (f : SentFrag) → f.ino.0 < 2 ^ 64 → is_fragment f.frag ≡ true → is_base_of f.base (length f.names) ≡ true → length f.names < 2 ^ 32 → rise is_name_before None f.names ≡ true → list_all is_sent_name f.names ≡ true
    → is_sent_frag f ≡ true
frag_sent f ino frag based few rises named =
    and_from (ltb f.ino.0 (2 ^ 64) && is_fragment f.frag) _ (and_from (ltb f.ino.0 (2 ^ 64)) (is_fragment f.frag) (lt-ltb f.ino.0 (2 ^ 64) ino) frag)
    (and_from (is_base_of f.base (length f.names)) _ based
    (and_from (ltb (length f.names) (2 ^ 32)) _ (lt-ltb (length f.names) (2 ^ 32) few) (and_from (rise is_name_before None f.names) (list_all is_sent_name f.names) rises named)))

-- a fragment of this head with these names
abbrev frag_with : Head → List SentName → SentFrag
frag_with h names = record { ino = record { 0 = h.ino }; frag = h.frag; base = h.base; names = names }

frag_joined : (bytes behind rest : List ℕ) (h : Head) (names : List SentName) → length names ≡ h.count → HeadTaken bytes h behind → Takes behind (flat_map name_bytes names) rest
    → rise is_name_before None names ≡ true → list_all is_sent_name names ≡ true → (is_sent_frag (frag_with h names) ≡ true) × Takes bytes (frag_bytes (frag_with h names)) rest
frag_joined bytes behind rest h names count head t rises named =
    let based : is_base_of h.base (length names) ≡ true = subst (λ (k : ℕ). is_base_of h.base k ≡ true) (sym count) head.based in
    let few : length names < 2 ^ 32 = omega (arith, count, head.few) in
    let counted = subst (λ (k : ℕ). Takes bytes (little_bytes 8 h.ino ++ (little_bytes 4 (word_of h.frag) ++ (base_bytes h.base ++ little_bytes 4 k))) behind) (sym count) head.taken in
    let whole = Takes-then bytes (little_bytes 8 h.ino ++ (little_bytes 4 (word_of h.frag) ++ (base_bytes h.base ++ little_bytes 4 (length names)))) behind (flat_map name_bytes names) rest counted t in
    let parts = four_parts (little_bytes 8 h.ino) (little_bytes 4 (word_of h.frag)) (base_bytes h.base) (little_bytes 4 (length names)) (flat_map name_bytes names) in
    (frag_sent (frag_with h names) head.ino head.frag based few rises named, subst (λ (x : List ℕ). Takes bytes x rest) parts whole)

abbrev frag_2 : Head → List SentName × List ℕ → Option (SentFrag × List ℕ)
frag_2 h names = cond (rise is_name_before None names.0) (Some (frag_with h names.0, names.1)) None

abbrev frag_1 : Head × List ℕ → Option (SentFrag × List ℕ)
frag_1 head = items_at sent_name_at head.0.count head.1 >>= frag_2 head.0

-- a fragment is read where its head stands
pub head_of_frag : (bytes : List ℕ) (f : SentFrag) (rest : List ℕ) → sent_frag_at bytes ≡ Some (f, rest) → StatesHead bytes
unfolding sent_frag_at
head_of_frag bytes f rest read =
    let a = bind_some (head_at bytes) frag_1 (f, rest) read in
    record { head = a.0.0; names = a.0.1; headed = a.1 }

pub sent_frag_takes : (bytes : List ℕ) (f : SentFrag) (rest : List ℕ) → IsBytes bytes → sent_frag_at bytes ≡ Some (f, rest) → (is_sent_frag f ≡ true) × Takes bytes (frag_bytes f) rest
unfolding sent_frag_at
sent_frag_takes bytes f rest fits read =
    let a = bind_some (head_at bytes) frag_1 (f, rest) read in
    let b = bind_some (items_at sent_name_at a.0.0.count a.0.1) (frag_2 a.0.0) (f, rest) a.2 in
    let g = cond_some (rise is_name_before None b.0.0) (frag_with a.0.0 b.0.0, b.0.1) (f, rest) b.2 in
    let head = head_takes bytes a.0.0 a.0.1 fits a.1 in
    let names = items_take sent_name_at name_bytes is_sent_name sent_name_takes a.0.0.count a.0.1 b.0.0 b.0.1 head.taken.rest_fits b.1 in
    let P : SentFrag × List ℕ → Type 0 = λ q. (is_sent_frag q.0 ≡ true) × Takes bytes (frag_bytes q.0) q.1 in
    subst P g.1 (frag_joined bytes a.0.1 b.0.1 a.0.0 b.0.0 names.0 head names.2 g.0 names.1)

-- ---- the whole

record FrontTaken (bytes : List ℕ) (f : Front) (rest : List ℕ) : Type 0 where
  ino : f.ino < 2 ^ 64
  frag : is_fragment f.frag ≡ true
  ranks : (ltb f.exporter 16 && (ltb f.importer 16 && not (eqb f.exporter f.importer))) ≡ true
  few : f.count < 2 ^ 32
  taken : Takes bytes (88 ∷ 2 ∷ (little_bytes 8 f.ino ++ (little_bytes 4 (word_of f.frag) ++ (f.exporter ∷ f.importer ∷ little_bytes 4 f.count)))) rest

abbrev front_6 : ℕ → Fragment → ℕ → ℕ → ℕ × List ℕ → Option (Front × List ℕ)
front_6 ino frag exporter importer count =
    cond (ltb exporter 16 && (ltb importer 16 && not (eqb exporter importer))) (Some (record { ino = ino; frag = frag; exporter = exporter; importer = importer; count = count.0 }, count.1)) None

abbrev front_5 : ℕ → Fragment → ℕ → ℕ × List ℕ → Option (Front × List ℕ)
front_5 ino frag exporter importer = number_at 4 importer.1 >>= front_6 ino frag exporter importer.0

abbrev front_4 : ℕ → Fragment → ℕ × List ℕ → Option (Front × List ℕ)
front_4 ino frag exporter = byte_at exporter.1 >>= front_5 ino frag exporter.0

abbrev front_3 : ℕ → List ℕ → Fragment → Option (Front × List ℕ)
front_3 ino rest frag = byte_at rest >>= front_4 ino frag

abbrev front_2 : ℕ → ℕ × List ℕ → Option (Front × List ℕ)
front_2 ino word = frag_of_word word.0 >>= front_3 ino word.1

abbrev front_1 : ℕ × List ℕ → Option (Front × List ℕ)
front_1 ino = number_at 4 ino.1 >>= front_2 ino.0

abbrev front_0 : List ℕ → Option (Front × List ℕ)
front_0 tagged = number_at 8 tagged >>= front_1

front_joined : (bytes t a b c d rest : List ℕ) (f : Front) (word : ℕ) → word_of f.frag ≡ word → Takes bytes (88 ∷ 2 ∷ []) t → Takes t (little_bytes 8 f.ino) a → Takes a (little_bytes 4 word) b
    → Takes b (f.exporter ∷ []) c → Takes c (f.importer ∷ []) d → Takes d (little_bytes 4 f.count) rest
    → Takes bytes (88 ∷ 2 ∷ (little_bytes 8 f.ino ++ (little_bytes 4 (word_of f.frag) ++ (f.exporter ∷ f.importer ∷ little_bytes 4 f.count)))) rest
front_joined bytes t a b c d rest f word worded t0 t1 t2 t3 t4 t5 =
    let of_word = subst (λ (w : ℕ). Takes a (little_bytes 4 w) b) (sym worded) t2 in
    let last : Takes c (f.importer ∷ little_bytes 4 f.count) rest = Takes-then c (f.importer ∷ []) d (little_bytes 4 f.count) rest t4 t5 in
    let ranks : Takes b (f.exporter ∷ f.importer ∷ little_bytes 4 f.count) rest = Takes-then b (f.exporter ∷ []) c (f.importer ∷ little_bytes 4 f.count) rest t3 last in
    Takes-then bytes (88 ∷ 2 ∷ []) t (little_bytes 8 f.ino ++ (little_bytes 4 (word_of f.frag) ++ (f.exporter ∷ f.importer ∷ little_bytes 4 f.count))) rest t0
    (Takes-then t (little_bytes 8 f.ino) a (little_bytes 4 (word_of f.frag) ++ (f.exporter ∷ f.importer ∷ little_bytes 4 f.count)) rest t1
    (Takes-then a (little_bytes 4 (word_of f.frag)) b (f.exporter ∷ f.importer ∷ little_bytes 4 f.count) rest of_word ranks))

front_takes : (bytes : List ℕ) (f : Front) (rest : List ℕ) → IsBytes bytes → front_at bytes ≡ Some (f, rest) → FrontTaken bytes f rest
unfolding front_at
front_takes bytes f rest fits read =
    let t = bind_some (after_tag 88 2 bytes) front_0 (f, rest) read in
    let a = bind_some (number_at 8 t.0) front_1 (f, rest) t.2 in
    let b = bind_some (number_at 4 a.0.1) (front_2 a.0.0) (f, rest) a.2 in
    let w = bind_some (frag_of_word b.0.0) (front_3 a.0.0 b.0.1) (f, rest) b.2 in
    let c = bind_some (byte_at b.0.1) (front_4 a.0.0 w.0) (f, rest) w.2 in
    let d = bind_some (byte_at c.0.1) (front_5 a.0.0 w.0 c.0.0) (f, rest) c.2 in
    let n = bind_some (number_at 4 d.0.1) (front_6 a.0.0 w.0 c.0.0 d.0.0) (f, rest) d.2 in
    let made : Front = record { ino = a.0.0; frag = w.0; exporter = c.0.0; importer = d.0.0; count = n.0.0 } in
    let g = cond_some (ltb c.0.0 16 && (ltb d.0.0 16 && not (eqb c.0.0 d.0.0))) (made, n.0.1) (f, rest) n.2 in
    let t0 = tag_takes 88 2 bytes t.0 fits t.1 in
    let t1 = number_takes 8 width_8 t.0 a.0.0 a.0.1 t0.rest_fits a.1 in
    let t2 = number_takes 4 width_4 a.0.1 b.0.0 b.0.1 t1.0.rest_fits b.1 in
    let of_word = frag_takes b.0.0 w.0 w.1 in
    let t3 = byte_takes b.0.1 c.0.0 c.0.1 t2.0.rest_fits c.1 in
    let t4 = byte_takes c.0.1 d.0.0 d.0.1 t3.rest_fits d.1 in
    let t5 = number_takes 4 width_4 d.0.1 n.0.0 n.0.1 t4.rest_fits n.1 in
    let P : Front × List ℕ → Type 0 = λ q. FrontTaken bytes q.0 q.1 in
    subst P g.1
    (record {
      ino = omega (arith, t1.1);
      frag = of_word.0;
      ranks = g.0;
      few = omega (arith, t5.1);
      taken = front_joined bytes t.0 a.0.1 b.0.1 c.0.1 d.0.1 n.0.1 made b.0.0 of_word.1 t0 t1.0 t2.0 t3 t4 t5.0;
    })

-- an export of this front with these fragments
abbrev export_with : Front → List SentFrag → Export
export_with f frags = record { ino = record { 0 = f.ino }; frag = f.frag; exporter = record { 0 = f.exporter }; importer = record { 0 = f.importer }; frags = frags }

export_sendable : (e : Export) → e.ino.0 < 2 ^ 64 → is_fragment e.frag ≡ true → (ltb e.exporter.0 16 && (ltb e.importer.0 16 && not (eqb e.exporter.0 e.importer.0))) ≡ true → length e.frags < 2 ^ 32
    → rise is_frag_before None e.frags ≡ true → list_all is_sent_frag e.frags ≡ true → is_sendable e ≡ true
export_sendable e ino frag ranks few rises sent =
    and_from (ltb e.ino.0 (2 ^ 64) && is_fragment e.frag) _ (and_from (ltb e.ino.0 (2 ^ 64)) (is_fragment e.frag) (lt-ltb e.ino.0 (2 ^ 64) ino) frag)
    (and_from (ltb e.exporter.0 16 && (ltb e.importer.0 16 && not (eqb e.exporter.0 e.importer.0))) _ ranks
    (and_from (ltb (length e.frags) (2 ^ 32)) _ (lt-ltb (length e.frags) (2 ^ 32) few) (and_from (rise is_frag_before None e.frags) (list_all is_sent_frag e.frags) rises sent)))

abbrev export_2 : Front → List SentFrag × List ℕ → Option Export
export_2 f frags = cond (rise is_frag_before None frags.0 && eqb (length frags.1) 0) (Some (export_with f frags.0)) None

abbrev export_1 : Front × List ℕ → Option Export
export_1 front = items_at sent_frag_at front.0.count front.1 >>= export_2 front.0

front_parts : (a b n : List ℕ) (x y : ℕ) (d : List ℕ) → (88 ∷ 2 ∷ (a ++ (b ++ (x ∷ y ∷ d)))) ++ n ≡ 88 ∷ 2 ∷ (a ++ (b ++ (x ∷ y ∷ (d ++ n))))
front_parts a b n x y d = ap (λ (t : List ℕ). 88 ∷ 2 ∷ t) (append_assoc a (b ++ (x ∷ y ∷ d)) n ∙ ap (λ (t : List ℕ). a ++ t) (append_assoc b (x ∷ y ∷ d) n))

export_joined : (bytes behind rest : List ℕ) (f : Front) (frags : List SentFrag) → length frags ≡ f.count → FrontTaken bytes f behind → Takes behind (flat_map frag_bytes frags) rest → rest ≡ []
    → rise is_frag_before None frags ≡ true → list_all is_sent_frag frags ≡ true → SpellsExport bytes (export_with f frags)
export_joined bytes behind rest f frags count front t nothing rises sent =
    let few : length frags < 2 ^ 32 = omega (arith, count, front.few) in
    let counted = subst (λ (k : ℕ). Takes bytes (88 ∷ 2 ∷ (little_bytes 8 f.ino ++ (little_bytes 4 (word_of f.frag) ++ (f.exporter ∷ f.importer ∷ little_bytes 4 k)))) behind) (sym count) front.taken in
    let front_bytes = 88 ∷ 2 ∷ (little_bytes 8 f.ino ++ (little_bytes 4 (word_of f.frag) ++ (f.exporter ∷ f.importer ∷ little_bytes 4 (length frags)))) in
    let parts : bytes ≡ front_bytes ++ flat_map frag_bytes frags = counted.parts ∙ ap (λ (x : List ℕ). front_bytes ++ x) (t.parts ∙ ap (λ (x : List ℕ). flat_map frag_bytes frags ++ x) nothing ∙ append-nil (flat_map frag_bytes frags)) in
    record {
      sendable = export_sendable (export_with f frags) front.ino front.frag front.ranks few rises sent;
      spelled = parts ∙ front_parts (little_bytes 8 f.ino) (little_bytes 4 (word_of f.frag)) (flat_map frag_bytes frags) f.exporter f.importer (little_bytes 4 (length frags));
    }

pub parts_taken : (bytes : List ℕ) (e : Export) → IsBytes bytes → parts_at bytes ≡ Some e → SpellsExport bytes e
unfolding parts_at
parts_taken bytes e fits read =
    let a = bind_some (front_at bytes) export_1 e read in
    let b = bind_some (items_at sent_frag_at a.0.0.count a.0.1) (export_2 a.0.0) e a.2 in
    let g = cond_some (rise is_frag_before None b.0.0 && eqb (length b.0.1) 0) (export_with a.0.0 b.0.0) e b.2 in
    let w = and_parts (rise is_frag_before None b.0.0) (eqb (length b.0.1) 0) g.0 in
    let front = front_takes bytes a.0.0 a.0.1 fits a.1 in
    let frags = items_take sent_frag_at frag_bytes is_sent_frag sent_frag_takes a.0.0.count a.0.1 b.0.0 b.0.1 front.taken.rest_fits b.1 in
    let nothing : b.0.1 ≡ [] = nil_from_length b.0.1 (eqb-true (length b.0.1) 0 w.1) in
    subst (SpellsExport bytes) g.1 (export_joined bytes a.0.1 b.0.1 a.0.0 b.0.0 frags.0 front frags.2 nothing w.0 frags.1)
