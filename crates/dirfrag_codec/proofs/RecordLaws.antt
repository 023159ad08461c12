-- Records of each version mean one inode, each inode has its spellings, and the fields that are read are those that are spelled so.
use Rattle.std.proofs.Common.{append_assoc, ◌≡◌, ◌⊎◌, inl, inr, ℕ, ◌*◌, ◌^◌, ◌<◌, ◌≤◌, ◌&&◌, leb, ltb, List, [], ◌∷◌, ◌++◌, length, get_or, Option, Some, None, refl, sym, ap, subst, ◌∙◌, arith, ◌≢◌, Bool, true, false, cond, eqb}
use Rattle.std.proofs.lemmas.Bool.Decides.{nat_tests, Decides-and, Decides-eqb, Decides-like, Decides-ltb}
use Rattle.std.proofs.lemmas.List.{length-append}
use Rattle.std.proofs.lemmas.Option.{same_Some, cond_some}
use Rattle.std.specs.Bool.{Decides}
use Rattle.mds_types.specs.Tree.{HasPinOf}
use Rattle.mds_types.specs.declared.ids.Rank.{Rank}
use Rattle.mds_types.specs.declared.inodes.Inode.{Inode}
use Rattle.mds_types.specs.declared.inodes.Kind.{Kind}
use Rattle.mds_types.specs.declared.inodes.Kind.TheVariants.{File, Dir, Symlink}
use Rattle.dirfrag_codec.specs.EntryRecord.{HasItsSpellings, HasRecord, HasTarget, HasWidths, IsPlain, IsRankNumber, IsRecordable, IsRecordV1, IsRecordV2, SpellsEntry, WritesEntry, fields_bytes, kind_byte, numbers_v1, numbers_v2, pin_byte, target_bytes, widths_v1, widths_v2, SpellsLink, WritesLink}
use Rattle.dirfrag_codec.specs.Reading.{numbers_at, ◌>>=◌, IsFieldsOfLink, IsInodeOf, IsPinOf, RecordFields, fields_at, fields_of_inode, fields_of_version, fields_v1, fields_v2, fits_kind, version_at, where_whole, has_no_pin, has_widths, is_plain}
use Rattle.dirfrag_codec.proofs.FieldLaws.{Fit, length_fields, numbers_again, AreWidths, numbers_are, numbers_take}
use Rattle.std.proofs.lemmas.Bool.{eqb-true, and_parts}
use Rattle.std.specs.Prelude.{Result, Ok, Err, IfOk, OnErr}
use Rattle.mds_types.specs.Name.{IsTarget}
use Rattle.dirfrag_codec.specs.Grammar.{Decodes}
use Rattle.dirfrag_codec.proofs.Front.{IsBytes, bind_some, version_takes, width_1, width_2, width_4, width_8}

-- whether a number is one that ranks give
pub number_decides : (n : ℕ) → Decides (leb (2 ^ 40) n && ltb n (17 * 2 ^ 40)) (IsRankNumber n)
number_decides n = (λ e. grind (arith, nat_tests), λ h. grind (arith, nat_tests))

target_short : (kind : Kind) → HasTarget kind → length (target_bytes kind) < 2 ^ 16
target_short File h = omega arith
target_short Dir h = omega arith
target_short (Symlink target) h = omega (arith, h.short)

kind_small : (kind : Kind) → kind_byte kind < 256
kind_small File = omega arith
kind_small Dir = omega arith
kind_small (Symlink target) = omega arith

pin_small : (kind : Kind) (pin : Option Rank) → HasPinOf kind pin → pin_byte pin < 256
pin_small kind None h = omega arith
pin_small File (Some rank) h = absurd h
pin_small Dir (Some rank) h = omega (arith, h)
pin_small (Symlink target) (Some rank) h = absurd h

-- a pin and its byte
one_pin : (kind other : Kind) (a b : Option Rank) → HasPinOf kind a → HasPinOf other b → pin_byte a ≡ pin_byte b → a ≡ b
one_pin kind other None None g h e = refl
one_pin kind Dir None (Some rank) g h e = absurd (omega (arith, e, h))
one_pin kind File None (Some rank) g h e = absurd h
one_pin kind (Symlink t) None (Some rank) g h e = absurd h
one_pin Dir other (Some rank) None g h e = absurd (omega (arith, e, g))
one_pin File other (Some rank) None g h e = absurd g
one_pin (Symlink t) other (Some rank) None g h e = absurd g
one_pin kind other (Some a) (Some b) g h e = λ i. Some (record { 0 = e i })

one_kind : (k l : Kind) → kind_byte k ≡ kind_byte l → target_bytes k ≡ target_bytes l → k ≡ l
one_kind File File e t = refl
one_kind File Dir e t = absurd (omega arith)
one_kind File (Symlink x) e t = absurd (omega arith)
one_kind Dir File e t = absurd (omega arith)
one_kind Dir Dir e t = refl
one_kind Dir (Symlink x) e t = absurd (omega arith)
one_kind (Symlink x) File e t = absurd (omega arith)
one_kind (Symlink x) Dir e t = absurd (omega arith)
one_kind (Symlink x) (Symlink y) e t = ap (λ z. Symlink z) t

pub fit_v1 : (inode : Inode) → IsRecordable inode → HasWidths inode → Fit widths_v1 (numbers_v1 inode)
fit_v1 inode a w = (kind_small inode.kind, (omega (arith, a.number.most), (omega (arith, a.mode), (omega (arith, w.size), (omega (arith, w.mtime), (target_short inode.kind a.target, tt))))))

pub fit_v2 : (inode : Inode) → IsRecordable inode → HasWidths inode → Fit widths_v2 (numbers_v2 inode)
fit_v2 inode a w =
    (kind_small inode.kind, (omega (arith, a.number.most), (omega (arith, a.mode), (omega (arith, w.size), (omega (arith, w.mtime), (omega (arith, w.uid), (omega (arith, w.gid), (pin_small inode.kind inode.pin a.pin, (target_short inode.kind a.target, tt)))))))))

-- what follows the letter and the version
pub after_two : (a b c d : ℕ) (xs ys : List ℕ) → a ∷ b ∷ xs ≡ c ∷ d ∷ ys → (b ≡ d) × (xs ≡ ys)
after_two a b c d xs ys e = (ap (λ (l : List ℕ). get_or l 1 0) e, ap (λ (l : List ℕ). tail (tail l)) e)
  where
    tail : List ℕ → List ℕ
    tail [] = []
    tail (x ∷ l) = l

-- fields and target that are written alike are the same
same_fields : (widths m n s t : List ℕ) → Fit widths m → Fit widths n → fields_bytes widths m ++ s ≡ fields_bytes widths n ++ t → (m ≡ n) × (s ≡ t)
same_fields widths m n s t p q e =
    let found : Some (m, s) ≡ Some (n, t) = sym (numbers_again widths m s p) ∙ ap (numbers_at widths) e ∙ numbers_again widths n t q in
    let same : (m, s) ≡ (n, t) = same_Some (m, s) (n, t) found in
    (ap (λ (x : List ℕ × List ℕ). x.0) same, ap (λ (x : List ℕ × List ℕ). x.1) same)

one_v2 : (a b : Inode) → IsRecordable a → IsRecordable b → numbers_v2 a ≡ numbers_v2 b → target_bytes a.kind ≡ target_bytes b.kind → a ≡ b
one_v2 a b p q numbers targets =
    let kind : a.kind ≡ b.kind = one_kind a.kind b.kind (ap (λ l. get_or l 0 0) numbers) targets in
    let pin : a.pin ≡ b.pin = one_pin a.kind b.kind a.pin b.pin p.pin q.pin (ap (λ l. get_or l 7 0) numbers) in
    λ i. record {
      ino = record { 0 = get_or (numbers i) 1 0 };
      kind = kind i;
      mode = get_or (numbers i) 2 0;
      size = get_or (numbers i) 3 0;
      mtime = get_or (numbers i) 4 0;
      uid = get_or (numbers i) 5 0;
      gid = get_or (numbers i) 6 0;
      pin = pin i;
    }

one_v1 : (a b : Inode) → IsPlain a → IsPlain b → numbers_v1 a ≡ numbers_v1 b → target_bytes a.kind ≡ target_bytes b.kind → a ≡ b
one_v1 a b p q numbers targets =
    let kind : a.kind ≡ b.kind = one_kind a.kind b.kind (ap (λ l. get_or l 0 0) numbers) targets in
    let uid : a.uid ≡ b.uid = p.uid ∙ sym q.uid in
    let gid : a.gid ≡ b.gid = p.gid ∙ sym q.gid in
    let pin : a.pin ≡ b.pin = p.pin ∙ sym q.pin in
    λ i. record {
      ino = record { 0 = get_or (numbers i) 1 0 };
      kind = kind i;
      mode = get_or (numbers i) 2 0;
      size = get_or (numbers i) 3 0;
      mtime = get_or (numbers i) 4 0;
      uid = uid i;
      gid = gid i;
      pin = pin i;
    }

apart : (bytes : List ℕ) (a b : Inode) → IsRecordV1 bytes a → IsRecordV2 bytes b → ⊥
apart bytes a b s t =
    let clash : 1 ≡ 2 = (after_two 73 1 73 2 _ _ (sym s.spelled ∙ t.spelled)).0 in
    omega (arith, clash)

pub one_entry : (bytes : List ℕ) (a b : Inode) → SpellsEntry bytes a → SpellsEntry bytes b → a ≡ b
one_entry bytes a b (inl s) (inl t) =
    let body = (after_two 73 1 73 1 _ _ (sym s.spelled ∙ t.spelled)).1 in
    let same = same_fields widths_v1 (numbers_v1 a) (numbers_v1 b) (target_bytes a.kind) (target_bytes b.kind) (fit_v1 a s.allowed s.widths) (fit_v1 b t.allowed t.widths) body in
    one_v1 a b s.plain t.plain same.0 same.1
one_entry bytes a b (inl s) (inr t) = absurd (apart bytes a b s t)
one_entry bytes a b (inr s) (inl t) = absurd (apart bytes b a t s)
one_entry bytes a b (inr s) (inr t) =
    let body = (after_two 73 2 73 2 _ _ (sym s.spelled ∙ t.spelled)).1 in
    let same = same_fields widths_v2 (numbers_v2 a) (numbers_v2 b) (target_bytes a.kind) (target_bytes b.kind) (fit_v2 a s.allowed s.widths) (fit_v2 b t.allowed t.widths) body in
    one_v2 a b s.allowed t.allowed same.0 same.1

nothing : (s more t : List ℕ) → s ++ more ≡ t → length s ≡ length t → more ≡ []
nothing s more t e same = go more (omega (arith, ap (length {A = ℕ}) e, same, length-append s more))
  where
    go : (l : List ℕ) → length l ≡ 0 → l ≡ []
    go [] none = refl
    go (x ∷ l) none = absurd (omega (arith, none))

-- fields and target, and then more, are no other fields and target, where the fields state the target's length at place k
ended_fields : (k : ℕ) (widths m n s more t : List ℕ) → Fit widths m → Fit widths n → get_or m k 0 ≡ length s → get_or n k 0 ≡ length t → (fields_bytes widths m ++ s) ++ more ≡ fields_bytes widths n ++ t → more ≡ []
ended_fields k widths m n s more t p q states stated e =
    let same = same_fields widths m n (s ++ more) t p q (sym (append_assoc (fields_bytes widths m) s more) ∙ e) in
    nothing s more t same.1 (sym states ∙ ap (λ (l : List ℕ). get_or l k 0) same.0 ∙ stated)

-- what follows the letter and the version of a record, and more behind it
behind : (version : ℕ) (bytes more body : List ℕ) → bytes ≡ 73 ∷ version ∷ body → bytes ++ more ≡ 73 ∷ version ∷ (body ++ more)
behind version bytes more body e = ap (λ (b : List ℕ). b ++ more) e

pub ended : (bytes more : List ℕ) (a b : Inode) → SpellsEntry bytes a → SpellsEntry (bytes ++ more) b → more ≡ []
ended bytes more a b (inl s) (inl t) =
    let body = (after_two 73 1 73 1 _ _ (sym (behind 1 bytes more (fields_bytes widths_v1 (numbers_v1 a) ++ target_bytes a.kind) s.spelled) ∙ t.spelled)).1 in
    ended_fields 5 widths_v1 (numbers_v1 a) (numbers_v1 b) (target_bytes a.kind) more (target_bytes b.kind) (fit_v1 a s.allowed s.widths) (fit_v1 b t.allowed t.widths) refl refl body
ended bytes more a b (inl s) (inr t) =
    let clash : 1 ≡ 2 = (after_two 73 1 73 2 _ _ (sym (behind 1 bytes more (fields_bytes widths_v1 (numbers_v1 a) ++ target_bytes a.kind) s.spelled) ∙ t.spelled)).0 in
    absurd (omega (arith, clash))
ended bytes more a b (inr s) (inl t) =
    let clash : 2 ≡ 1 = (after_two 73 2 73 1 _ _ (sym (behind 2 bytes more (fields_bytes widths_v2 (numbers_v2 a) ++ target_bytes a.kind) s.spelled) ∙ t.spelled)).0 in
    absurd (omega (arith, clash))
ended bytes more a b (inr s) (inr t) =
    let body = (after_two 73 2 73 2 _ _ (sym (behind 2 bytes more (fields_bytes widths_v2 (numbers_v2 a) ++ target_bytes a.kind) s.spelled) ∙ t.spelled)).1 in
    ended_fields 8 widths_v2 (numbers_v2 a) (numbers_v2 b) (target_bytes a.kind) more (target_bytes b.kind) (fit_v2 a s.allowed s.widths) (fit_v2 b t.allowed t.widths) refl refl body

pub its_spellings : HasItsSpellings
its_spellings = record {
  first = λ x y inode s t. s.spelled ∙ sym t.spelled;
  second = λ x y inode s t. s.spelled ∙ sym t.spelled;
  plain = λ inode a w p. (record { allowed = a; widths = w; plain = p; spelled = refl }, record { allowed = a; widths = w; spelled = refl });
  other = λ x inode not s. not s.plain;
  written = λ inode a w. record { allowed = a; widths = w; spelled = refl };
  apart = apart;
}

-- what a record spells, the version that is written can say
pub allowed : (bytes : List ℕ) (inode : Inode) → SpellsEntry bytes inode → IsRecordable inode
allowed bytes inode (inl s) = s.allowed
allowed bytes inode (inr s) = s.allowed

pub recorded : (bytes : List ℕ) (inode : Inode) → SpellsEntry bytes inode → HasRecord inode
recorded bytes inode (inl s) = its_spellings.written inode s.allowed s.widths
recorded bytes inode (inr s) = its_spellings.written inode s.allowed s.widths

-- what is written has 40 bytes and the target
pub written_short : (bytes : List ℕ) (inode : Inode) → WritesEntry bytes inode → length bytes < 256 ^ 2
written_short bytes inode s =
    let many : length (fields_bytes widths_v2 (numbers_v2 inode)) ≡ 38 = length_fields widths_v2 (numbers_v2 inode) (fit_v2 inode s.allowed s.widths) in
    rw s.spelled (all_short (fields_bytes widths_v2 (numbers_v2 inode)) (target_bytes inode.kind) many (target_few inode.kind s.allowed.target))
  where
    target_few : (kind : Kind) → HasTarget kind → length (target_bytes kind) ≤ 4095
    target_few File h = omega arith
    target_few Dir h = omega arith
    target_few (Symlink target) h = h.short

    all_short : (fields target : List ℕ) → length fields ≡ 38 → length target ≤ 4095 → length (73 ∷ 2 ∷ (fields ++ target)) < 256 ^ 2
    all_short fields target many few = omega (arith, many, few, length-append fields target)

-- what is written has one meaning
pub one_written : (bytes : List ℕ) (a b : Inode) → WritesEntry bytes a → WritesEntry bytes b → a ≡ b
one_written bytes a b s t = one_entry bytes a b (inr s) (inr t)

-- ---- tests

no_pin_decides : (pin : Option Rank) → Decides (has_no_pin pin) (pin ≡ None)
no_pin_decides None = (λ _. refl, λ _. refl)
no_pin_decides (Some rank) = (λ e. absurd cc, λ e. absurd cc)

pub widths_decides : (inode : Inode) → Decides (has_widths inode) (HasWidths inode)
widths_decides inode =
    Decides-like _ (λ p. record { size = p.0; mtime = p.1.0; uid = p.1.1.0; gid = p.1.1.1 }) (λ h. (h.size, (h.mtime, (h.uid, h.gid))))
    (Decides-and _ _ (Decides-ltb inode.size (2 ^ 64)) (Decides-and _ _ (Decides-ltb inode.mtime (2 ^ 64)) (Decides-and _ _ (Decides-ltb inode.uid (2 ^ 32)) (Decides-ltb inode.gid (2 ^ 32)))))

pub plain_decides : (inode : Inode) → Decides (is_plain inode) (IsPlain inode)
plain_decides inode =
    Decides-like _ (λ p. record { uid = p.0; gid = p.1.0; pin = p.1.1 }) (λ h. (h.uid, (h.gid, h.pin)))
    (Decides-and _ _ (Decides-eqb inode.uid 0) (Decides-and _ _ (Decides-eqb inode.gid 0) (no_pin_decides inode.pin)))

-- ---- what is read

-- bytes are the letter, a version, numbers of these widths and a target of the length that the number at a place states, and so these fields
pub record Whole (version : ℕ) (widths : List ℕ) (place : ℕ) (fields : List ℕ → List ℕ → RecordFields) (bytes : List ℕ) (f : RecordFields) : Type 0 where
  pub numbers : List ℕ
  pub target : List ℕ
  pub fit : Fit widths numbers
  pub len : length target ≡ get_or numbers place 0
  pub parts : bytes ≡ 73 ∷ version ∷ (fields_bytes widths numbers ++ target)
  pub is : fields numbers target ≡ f

whole_takes : (version : ℕ) (widths : List ℕ) (place : ℕ) (fields : List ℕ → List ℕ → RecordFields) (bytes rest : List ℕ) (f : RecordFields) → AreWidths widths → IsBytes rest → bytes ≡ 73 ∷ version ∷ rest
    → (numbers_at widths rest >>= where_whole place fields) ≡ Some f → Whole version widths place fields bytes f
whole_takes version widths place fields bytes rest f known fits front e =
    let a = bind_some (numbers_at widths rest) (where_whole place fields) f e in
    let read = numbers_take widths rest a.0.0 a.0.1 known fits a.1 in
    let g = cond_some (eqb (length a.0.1) (get_or a.0.0 place 0)) (fields a.0.0 a.0.1) f a.2 in
    record {
      numbers = a.0.0;
      target = a.0.1;
      fit = read.fit;
      len = eqb-true _ _ g.0;
      parts = front ∙ ap (λ (x : List ℕ). 73 ∷ version ∷ x) read.parts;
      is = g.1;
    }

abbrev WholeV1 : List ℕ → RecordFields → Type 0
WholeV1 bytes f = Whole 1 widths_v1 5 fields_v1 bytes f

abbrev WholeV2 : List ℕ → RecordFields → Type 0
WholeV2 bytes f = Whole 2 widths_v2 8 fields_v2 bytes f

-- what the fields were read from
pub fields_takes : (bytes : List ℕ) (f : RecordFields) → IsBytes bytes → fields_at bytes ≡ Some f → WholeV1 bytes f ⊎ WholeV2 bytes f
unfolding fields_at
fields_takes bytes f fits e =
    let a = bind_some (version_at 73 bytes) fields_of_version f e in
    let t = version_takes 73 bytes a.0.0 a.0.1 fits a.1 in
    go a.0.0 a.0.1 t.parts t.rest_fits (eqb a.0.0 1) refl (eqb a.0.0 2) refl a.2
  where
    go : (version : ℕ) (rest : List ℕ) → bytes ≡ 73 ∷ version ∷ rest → IsBytes rest → (b : Bool) → eqb version 1 ≡ b → (d : Bool) → eqb version 2 ≡ d
        → cond b (numbers_at widths_v1 rest >>= where_whole 5 fields_v1) (cond d (numbers_at widths_v2 rest >>= where_whole 8 fields_v2) None) ≡ Some f → WholeV1 bytes f ⊎ WholeV2 bytes f
    go version rest parts rest_fits true first d second read =
        inl (whole_takes 1 widths_v1 5 fields_v1 bytes rest f (width_1, (width_8, (width_2, (width_8, (width_8, (width_2, tt))))))
        rest_fits (parts ∙ ap (λ (v : ℕ). 73 ∷ v ∷ rest) (eqb-true _ _ first)) read)
    go version rest parts rest_fits false first true second read =
        inr (whole_takes 2 widths_v2 8 fields_v2 bytes rest f (width_1, (width_8, (width_2, (width_8, (width_8, (width_4, (width_4, (width_1, (width_2, tt)))))))))
        rest_fits (parts ∙ ap (λ (v : ℕ). 73 ∷ v ∷ rest) (eqb-true _ _ second)) read)
    go version rest parts rest_fits false first false second read = absurd cc

itself : (n : ℕ) → eqb n n ≡ true
itself n = grind (arith, nat_tests)

-- numbers and a target that are written are read again
whole_again : (widths numbers : List ℕ) (place : ℕ) (fields : List ℕ → List ℕ → RecordFields) (target : List ℕ) → Fit widths numbers → get_or numbers place 0 ≡ length target
    → (numbers_at widths (fields_bytes widths numbers ++ target) >>= where_whole place fields) ≡ Some (fields numbers target)
whole_again widths numbers place fields target fit states =
    ap (λ (r : Option (List ℕ × List ℕ)). r >>= where_whole place fields) (numbers_again widths numbers target fit)
    ∙ ap (λ (k : ℕ). cond (eqb (length target) k) (Some (fields numbers target)) None) states
    ∙ ap (λ (b : Bool). cond b (Some (fields numbers target)) None) (itself (length target))

-- fields that are read from bytes are those of the inode that the bytes spell
pub fields_of_record : (bytes : List ℕ) (inode : Inode) → SpellsEntry bytes inode → fields_at bytes ≡ Some (fields_of_inode inode)
unfolding fields_at
fields_of_record bytes inode (inl s) =
    ap fields_at s.spelled ∙ whole_again widths_v1 (numbers_v1 inode) 5 fields_v1 (target_bytes inode.kind) (fit_v1 inode s.allowed s.widths) refl
    ∙ ap (λ (f : RecordFields). Some f) plain
  where
    plain : fields_v1 (numbers_v1 inode) (target_bytes inode.kind) ≡ fields_of_inode inode
    plain = λ i. record {
      kind = kind_byte inode.kind;
      ino = inode.ino.0;
      mode = inode.mode;
      size = inode.size;
      mtime = inode.mtime;
      uid = (sym s.plain.uid) i;
      gid = (sym s.plain.gid) i;
      pin = pin_byte ((sym s.plain.pin) i);
      target = target_bytes inode.kind;
    }
fields_of_record bytes inode (inr s) =
    ap fields_at s.spelled ∙ whole_again widths_v2 (numbers_v2 inode) 8 fields_v2 (target_bytes inode.kind) (fit_v2 inode s.allowed s.widths) refl

-- no pin has the byte 255 but none
no_pin : (kind : Kind) (pin : Option Rank) → HasPinOf kind pin → pin_byte pin ≡ 255 → pin ≡ None
no_pin kind None h e = refl
no_pin File (Some rank) h e = absurd h
no_pin Dir (Some rank) h e = absurd (omega (arith, h, e))
no_pin (Symlink target) (Some rank) h e = absurd h

spells_v1 : (bytes : List ℕ) (inode : Inode) (f : RecordFields) → IsRecordable inode → fields_of_inode inode ≡ f → WholeV1 bytes f → IsRecordV1 bytes inode
spells_v1 bytes inode f may same w = record {
  allowed = may;
  widths = record { size = omega (arith, fit.1.1.1.0); mtime = omega (arith, fit.1.1.1.1.0); uid = omega (arith, uid); gid = omega (arith, gid) };
  plain = record { uid = uid; gid = gid; pin = no_pin inode.kind inode.pin may.pin (sym (ap (λ (g : RecordFields). g.pin) alike)) };
  spelled = w.parts ∙ λ i. 73 ∷ 1 ∷ (fields_bytes widths_v1 (numbers i) ++ (alike i).target);
}
  where
    alike : fields_v1 w.numbers w.target ≡ fields_of_inode inode
    alike = w.is ∙ sym same

    len : get_or w.numbers 5 0 ≡ length (target_bytes inode.kind)
    len = sym w.len ∙ ap (λ (g : RecordFields). length g.target) alike

    numbers : w.numbers ≡ numbers_v1 inode
    numbers = numbers_are widths_v1 w.numbers w.fit ∙ λ i. (alike i).kind ∷ (alike i).ino ∷ (alike i).mode ∷ (alike i).size ∷ (alike i).mtime ∷ len i ∷ []

    fit : Fit widths_v1 (numbers_v1 inode)
    fit = subst (λ (n : List ℕ). Fit widths_v1 n) numbers w.fit

    uid : inode.uid ≡ 0
    uid = sym (ap (λ (g : RecordFields). g.uid) alike)

    gid : inode.gid ≡ 0
    gid = sym (ap (λ (g : RecordFields). g.gid) alike)

spells_v2 : (bytes : List ℕ) (inode : Inode) (f : RecordFields) → IsRecordable inode → fields_of_inode inode ≡ f → WholeV2 bytes f → IsRecordV2 bytes inode
spells_v2 bytes inode f may same w = record {
  allowed = may;
  widths = record { size = omega (arith, fit.1.1.1.0); mtime = omega (arith, fit.1.1.1.1.0); uid = omega (arith, fit.1.1.1.1.1.0); gid = omega (arith, fit.1.1.1.1.1.1.0) };
  spelled = w.parts ∙ λ i. 73 ∷ 2 ∷ (fields_bytes widths_v2 (numbers i) ++ (alike i).target);
}
  where
    alike : fields_v2 w.numbers w.target ≡ fields_of_inode inode
    alike = w.is ∙ sym same

    len : get_or w.numbers 8 0 ≡ length (target_bytes inode.kind)
    len = sym w.len ∙ ap (λ (g : RecordFields). length g.target) alike

    numbers : w.numbers ≡ numbers_v2 inode
    numbers = numbers_are widths_v2 w.numbers w.fit
        ∙ λ i. (alike i).kind ∷ (alike i).ino ∷ (alike i).mode ∷ (alike i).size ∷ (alike i).mtime ∷ (alike i).uid ∷ (alike i).gid ∷ (alike i).pin ∷ len i ∷ []

    fit : Fit widths_v2 (numbers_v2 inode)
    fit = subst (λ (n : List ℕ). Fit widths_v2 n) numbers w.fit

-- an inode that a record allows is spelled by the bytes from which its fields were read
spells_from_fields : (bytes : List ℕ) (inode : Inode) (f : RecordFields) → IsRecordable inode → fields_of_inode inode ≡ f → WholeV1 bytes f ⊎ WholeV2 bytes f → SpellsEntry bytes inode
spells_from_fields bytes inode f may same (inl w) = inl (spells_v1 bytes inode f may same w)
spells_from_fields bytes inode f may same (inr w) = inr (spells_v2 bytes inode f may same w)

entry_decoded : (bytes : List ℕ) (f : RecordFields) (answer : Option Inode) → IsBytes bytes → fields_at bytes ≡ Some f → IsInodeOf f answer → Decodes SpellsEntry bytes answer
entry_decoded bytes f (Some inode) fits read h = spells_from_fields bytes inode f h.0 h.1 (fields_takes bytes f fits read)
entry_decoded bytes f None fits read h = λ inode s.
    h inode (allowed bytes inode s) (same_Some (fields_of_inode inode) f (sym (fields_of_record bytes inode s) ∙ read))

pub entry_answered : {E : Type 0} (bytes : List ℕ) (f : RecordFields) (answer : Result (Option Inode) E) → IsBytes bytes → fields_at bytes ≡ Some f → IfOk answer (IsInodeOf f) → IfOk answer (Decodes SpellsEntry bytes)
entry_answered bytes f (Ok found) fits read h = entry_decoded bytes f found fits read h
entry_answered bytes f (Err e) fits read h = tt

pub on_err : {A E P : Type 0} (answer : Result A E) → P → OnErr answer P
on_err (Ok x) p = tt
on_err (Err e) p = p

-- the fields of a link that a record allows, whose target has no memory yet
pub link_fields : (f : RecordFields) (pin : Option Rank) → f.mode ≤ 4095 → fits_kind f ≡ true → IsPinOf f.kind f.pin (Some pin) → (f.kind ≡ 3) × IsTarget f.target → IsFieldsOfLink f
link_fields f pin mode fits pinned (three, target) =
    let number = and_parts (leb (2 ^ 40) f.ino && ltb f.ino (17 * 2 ^ 40)) _ fits in
    let size : cond (eqb f.kind 2) (eqb f.size 0) (cond (eqb f.kind 3) (eqb f.size (length f.target)) true) ≡ true = number.1 in
    let size_is : eqb f.size (length f.target) ≡ true = sym (ap (λ (k : ℕ). cond (eqb k 2) (eqb f.size 0) (cond (eqb k 3) (eqb f.size (length f.target)) true)) three) ∙ size in (
      link,
      record { number = (number_decides f.ino).0 number.0; mode = mode; size = eqb-true f.size (length f.target) size_is; target = target; pin = pinned.1 (Symlink f.target) (sym three) },
      (λ i.
          record { kind = (sym three) i; ino = f.ino; mode = f.mode; size = f.size; mtime = f.mtime; uid = f.uid; gid = f.gid; pin = pinned.0 i; target = f.target }),
      tt,
    )
  where
    link : Inode
    link = record { ino = record { 0 = f.ino }; kind = Symlink f.target; mode = f.mode; size = f.size; mtime = f.mtime; uid = f.uid; gid = f.gid; pin = pin }

-- fields of a link are those of a link's record
link_spelled : (bytes : List ℕ) (f : RecordFields) → IsBytes bytes → fields_at bytes ≡ Some f → IsFieldsOfLink f → SpellsLink bytes
link_spelled bytes f fits read h = (h.0, spells_from_fields bytes h.0 f h.1 h.2 (fields_takes bytes f fits read), h.3)

pub link_answered : {A E : Type 0} (bytes : List ℕ) (f : RecordFields) (answer : Result A E) → IsBytes bytes → fields_at bytes ≡ Some f → OnErr answer (IsFieldsOfLink f) → OnErr answer (SpellsLink bytes)
link_answered bytes f (Ok found) fits read h = tt
link_answered bytes f (Err e) fits read h = link_spelled bytes f fits read h

pub entry_refused : (bytes : List ℕ) → fields_at bytes ≡ None → Decodes SpellsEntry bytes None
entry_refused bytes read = λ inode s.
    let found : fields_at bytes ≡ Some (fields_of_inode inode) = fields_of_record bytes inode s in
    absurd cc

-- ---- what is written

written_at : (bytes : List ℕ) (inode : Inode) → WritesEntry bytes inode → version_at 73 bytes ≡ Some (2, fields_bytes widths_v2 (numbers_v2 inode) ++ target_bytes inode.kind)
written_at bytes inode s = ap (version_at 73) s.spelled

pub written_answered : {E : Type 0} (bytes : List ℕ) (version : ℕ) (rest : List ℕ) (answer : Result (Option Inode) E) → version_at 73 bytes ≡ Some (version, rest) → version ≡ 2
    → IfOk answer (Decodes SpellsEntry bytes) → IfOk answer (Decodes WritesEntry bytes)
written_answered bytes version rest (Err e) read second h = tt
written_answered bytes version rest (Ok None) read second h = λ inode s. h inode (inr s)
written_answered bytes version rest (Ok (Some inode)) read second (inr s) = s
written_answered bytes version rest (Ok (Some inode)) read second (inl s) =
    let found = same_Some (version, rest) (1, fields_bytes widths_v1 (numbers_v1 inode) ++ target_bytes inode.kind) (sym read ∙ ap (version_at 73) s.spelled) in
    absurd (omega (arith, second, ap (λ (p : ℕ × List ℕ). p.0) found))

pub written_link : {A E : Type 0} (bytes : List ℕ) (version : ℕ) (rest : List ℕ) (answer : Result A E) → version_at 73 bytes ≡ Some (version, rest) → version ≡ 2 → OnErr answer (SpellsLink bytes) → OnErr answer (WritesLink bytes)
written_link bytes version rest (Ok found) read second h = tt
written_link bytes version rest (Err e) read second (inode, spelled, link) = (inode, written_answered {E = ℕ} bytes version rest (Ok (Some inode)) read second spelled, link)

pub written_unless : (bytes : List ℕ) → version_at 73 bytes ≡ None → Decodes WritesEntry bytes None
written_unless bytes none = λ inode s.
    let found = written_at bytes inode s in
    let clash : None ≡ Some (2, fields_bytes widths_v2 (numbers_v2 inode) ++ target_bytes inode.kind) = sym none ∙ found in
    absurd cc

pub written_other : (bytes : List ℕ) (version : ℕ) (rest : List ℕ) → version_at 73 bytes ≡ Some (version, rest) → version ≢ 2 → Decodes WritesEntry bytes None
written_other bytes version rest read other = λ inode s.
    let found = same_Some (version, rest) (2, fields_bytes widths_v2 (numbers_v2 inode) ++ target_bytes inode.kind) (sym read ∙ written_at bytes inode s) in
    other (ap (λ (p : ℕ × List ℕ). p.0) found)
