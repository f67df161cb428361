-- Bytes that spell an image are not refused, and no other image is read from them.
use Rattle.std.proofs.Common.{◌≡◌, ◌≢◌, ℕ, ◌*◌, Bool, true, false, ◌&&◌, nat_lt, nat_le, List, [], ◌∷◌, ◌++◌, length, take, drop, None, refl, sym, ap, subst, ◌∙◌, arith, inl, inr, length-append, append_assoc}
use Rattle.std.specs.Prelude.{All, Result, Ok, Err, IfOk, IfErr}
use Rattle.std.proofs.Math.Seq.{take-append_seam, drop-append_seam}
use Rattle.std.proofs.lemmas.Bool.{ltb-true, le-leb, and_from, false_from_ne_true}
use Rattle.std.proofs.lemmas.List.Elements.{All-head, All-tail}
use Rattle.std.proofs.lemmas.Option.{slice_get_within}
use Rattle.pulse_isa.specs.declared.instr.Instr.{Instr}
use Rattle.pulse_isa.specs.Spelling.{HasSpelling}
use Rattle.pulse_isa.specs.Words as w
use Rattle.code_verify.specs.declared.bad.Bad.{Bad}
use Rattle.code_verify.specs.declared.bad.Sizes.{Sizes}
use Rattle.code_verify.specs.Rules.{Verified, IsFirstBad}
use Rattle.code_image.specs.declared.fault.ImageFault.{ImageFault}
use Rattle.code_image.specs.declared.fault.ImageFault.TheVariants as f
use Rattle.code_image.specs.declared.image.Image.{Image}
use Rattle.code_image.specs.Spelling.{words, header_of, OperandsFit, Spells, IsSame}
use Rattle.code_image.specs.Layout.{header_bytes}
use Rattle.code_image.specs.Checks.{IsWords, NoWordFirst, IsBadFirst, RefusesWords, Refuses, header_fault, sizes_fit, words_len}
use Rattle.code_image.specs.Segments.{IsSize, init_sizes, body_sizes}
use Rattle.code_image.proofs.WordLaws.{both_words}
use Rattle.code_image.proofs.Unique.{front_same, words_bytes, words_same, no_end, spelling_len, header_len, headed, headed_unique}

-- verified code breaks no rule
pub keeps_all : (sizes : Sizes) (code : List Instr) (bad : Bad) → Verified sizes code → IsFirstBad sizes code bad → ⊥
keeps_all sizes code bad v (inl p) = omega (arith, v.some, p.0)
keeps_all sizes code bad v (inr (inl p)) = omega (arith, v.short, p.0)
keeps_all sizes code bad v (inr (inr b)) =
    let none = v.unbroken bad.at b.instr (slice_get_within code bad.at b.instr b.stands) b.stands in
    let some = b.broken in
    absurd cc

-- of the words of code, each is a spelling
all_spelled : (before code : List Instr) (word back : List ℕ) → All OperandsFit code → All HasSpelling code → length word ≡ 8 → words before ++ (word ++ back) ≡ words code
    → ((i : Instr) → w.Spells i word → ⊥) → ⊥
all_spelled [] [] word back fits spelled len e none =
    let l : length (word ++ back) ≡ 0 = ap length e in
    omega (arith, l, len, length-append word back)
all_spelled [] (i ∷ code) word back fits spelled len e none =
    let parts = front_same word (w.spelling i) back (words code) (len ∙ sym (spelling_len i)) e in
    none i (record { fits = All-head OperandsFit i code fits; width = All-head HasSpelling i code spelled; word = parts.0 })
all_spelled (j ∷ before) [] word back fits spelled len e none =
    no_end j (words before ++ (word ++ back)) (sym (sym (append_assoc (w.spelling j) (words before) (word ++ back)) ∙ e))
all_spelled (j ∷ before) (i ∷ code) word back fits spelled len e none =
    let parts = front_same (w.spelling j) (w.spelling i) (words before ++ (word ++ back)) (words code) (spelling_len j ∙ sym (spelling_len i))
    (sym (append_assoc (w.spelling j) (words before) (word ++ back)) ∙ e) in
    all_spelled before code word back (All-tail OperandsFit i code fits) (All-tail HasSpelling i code spelled) len parts.1 none

pub no_other_word : (code : List Instr) (bytes : List ℕ) (k : ℕ) → IsWords code bytes → NoWordFirst bytes k → ⊥
no_other_word code bytes k is n =
    let e : words n.before ++ (n.word ++ n.back) ≡ words code =
    ap (λ l. l ++ (n.word ++ n.back)) (sym n.words.same) ∙ sym (append_assoc n.front n.word n.back) ∙ sym n.parts ∙ is.same in
    all_spelled n.before code n.word n.back is.fits is.spelled n.size e n.none

-- ---- an image's own bytes

-- the words behind its header
record Behind (image : Image) : Type 0 where
  init : IsWords image.init_code (words image.init_code)
  body : IsWords image.body_code (words image.body_code)

behind : (bytes : List ℕ) (image : Image) → Spells bytes image → Behind image
behind bytes image s = record {
  init = record { fits = s.init; spelled = image.init_verified.spelled; same = refl };
  body = record { fits = s.body; spelled = image.body_verified.spelled; same = refl };
}

size_within : (size : ℕ) → IsSize size → (nat_le 1 size && nat_le size 256) ≡ true
size_within size is = and_from _ _ (le-leb _ _ is.some) (le-leb _ _ is.fits)

-- its header passes all checks
checked : (image : Image) → header_fault (header_of image) (length (words image.init_code ++ words image.body_code)) ≡ None
checked image =
    let after = length (words image.init_code ++ words image.body_code) in
    let len : after ≡ words_len (header_of image) =
    omega (arith, length-append (words image.init_code) (words image.body_code), words_bytes image.init_code, words_bytes image.body_code) in
    let sizes : sizes_fit (header_of image) ≡ true =
    and_from _ _ (and_from _ _ (le-leb _ _ image.args_fit) (size_within image.record_size image.record_is_size)) (size_within image.pad_size image.pad_is_size) in
    let not_short : nat_lt after (words_len (header_of image)) ≡ false = false_from_ne_true _ (λ e. omega (arith, len, ltb-true _ _ e)) in
    let not_long : nat_lt (words_len (header_of image)) after ≡ false = false_from_ne_true _ (λ e. omega (arith, len, ltb-true _ _ e)) in
    rw (sizes, not_short, not_long) refl

bad_first : (image : Image) (init_code body_code : List Instr) (body : Bool) (bad : Bad) → init_code ≡ image.init_code → body_code ≡ image.body_code
    → IsBadFirst (header_of image) init_code body_code body bad → ⊥
bad_first image init_code body_code false bad init last first =
    keeps_all _ _ bad image.init_verified (subst (λ code. IsFirstBad (init_sizes image.args image.pad_size) code bad) init first)
bad_first image init_code body_code true bad init last first =
    keeps_all _ _ bad image.body_verified (subst (λ code. IsFirstBad (body_sizes image.record_size image.pad_size) code bad) last first.1)

fine_words : (bytes : List ℕ) (image : Image) (fault : ImageFault) → Spells bytes image → RefusesWords (header_of image) (words image.init_code ++ words image.body_code) fault → ⊥
fine_words bytes image fault s (inl (k, none, e)) =
    let b = behind bytes image s in
    no_other_word (image.init_code ++ image.body_code) (words image.init_code ++ words image.body_code) k
    (both_words image.init_code image.body_code (words image.init_code) (words image.body_code) b.init b.body) none
fine_words bytes image fault s (inr (body, bad, r, e)) =
    let b = behind bytes image s in
    let x = words image.init_code in
    let y = words image.body_code in
    let front : take (8 * length image.init_code) (x ++ y) ≡ x = ap (λ n. take n (x ++ y)) (sym (words_bytes image.init_code)) ∙ take-append_seam x y in
    let back : drop (8 * length image.init_code) (x ++ y) ≡ y = ap (λ n. drop n (x ++ y)) (sym (words_bytes image.init_code)) ∙ drop-append_seam x y in
    let init : r.init_code ≡ image.init_code = words_same _ _ _ _ r.init_words b.init front in
    let last : r.body_code ≡ image.body_code = words_same _ _ _ _ r.body_words b.body back in
    bad_first image r.init_code r.body_code body bad init last r.first

-- no check of its bytes fails
pub not_refused : (bytes : List ℕ) (image : Image) (fault : ImageFault) → Spells bytes image → Refuses bytes fault → ⊥
not_refused bytes image fault s (inl (short, e)) =
    let len : length bytes ≡ length (header_bytes (header_of image) ++ (words image.init_code ++ words image.body_code)) = ap length s.spelling in
    omega (arith, short, len, length-append (header_bytes (header_of image)) (words image.init_code ++ words image.body_code), header_len (header_of image))
not_refused bytes image fault s (inr (h, rest, is, inl found)) =
    let same = headed_unique bytes h (header_of image) rest _ is (headed bytes image s) in
    let none : header_fault h (length rest) ≡ None = rw (same.0, same.1) (checked image) in
    absurd cc
not_refused bytes image fault s (inr (h, rest, is, inr (none, refused))) =
    let same = headed_unique bytes h (header_of image) rest _ is (headed bytes image s) in
    fine_words bytes image fault s (rw (sym same.0, sym same.1) refused)

-- ---- what is read

pub same_spelling : (bytes : List ℕ) (a b : Image) → Spells bytes a → Spells bytes b → IsSame a b
same_spelling bytes a b s t =
    let same = headed_unique bytes (header_of a) (header_of b) _ _ (headed bytes a s) (headed bytes b t) in
    let h : header_of a ≡ header_of b = same.0 in
    let count : length a.init_code ≡ length b.init_code = ap (λ x. x.init_words) h in
    let len : length (words a.init_code) ≡ length (words b.init_code) = omega (arith, count, words_bytes a.init_code, words_bytes b.init_code) in
    let parts = front_same (words a.init_code) (words b.init_code) (words a.body_code) (words b.body_code) len same.1 in
    let x = behind bytes a s in
    let y = behind bytes b t in
    record {
      record_size = ap (λ x. x.record_size) h;
      pad_size = ap (λ x. x.pad_size) h;
      args = ap (λ x. x.args) h;
      init = words_same _ _ _ _ x.init y.init parts.0;
      body = words_same _ _ _ _ x.body y.body parts.1;
    }

memory_alone : (bytes : List ℕ) (image : Image) (fault : ImageFault) → Spells bytes image → (fault ≢ f.Memory → Refuses bytes fault) → fault ≡ f.Memory
memory_alone bytes image f.Memory s r = refl
memory_alone bytes image f.Short s r = absurd (not_refused bytes image f.Short s (r (λ e. absurd cc)))
memory_alone bytes image f.Magic s r = absurd (not_refused bytes image f.Magic s (r (λ e. absurd cc)))
memory_alone bytes image f.Version s r = absurd (not_refused bytes image f.Version s (r (λ e. absurd cc)))
memory_alone bytes image f.Size s r = absurd (not_refused bytes image f.Size s (r (λ e. absurd cc)))
memory_alone bytes image f.Long s r = absurd (not_refused bytes image f.Long s (r (λ e. absurd cc)))
memory_alone bytes image (f.Word k) s r = absurd (not_refused bytes image (f.Word k) s (r (λ e. absurd cc)))
memory_alone bytes image (f.Bad body bad) s r = absurd (not_refused bytes image (f.Bad body bad) s (r (λ e. absurd cc)))

pub only : (bytes : List ℕ) (r : Result Image ImageFault) → IfOk r (λ image. Spells bytes image) → IfErr r (λ e. e ≢ f.Memory → Refuses bytes e)
    → (image : Image) → Spells bytes image → IfOk r (λ found. IsSame found image) × IfErr r (λ e. e ≡ f.Memory)
only bytes (Ok found) ok err image s = (same_spelling bytes found image ok s, tt)
only bytes (Err fault) ok err image s = (tt, memory_alone bytes image fault s err)
