-- Bytes are refused for one fault: the first check that fails.
use Rattle.std.proofs.Common.{◌≡◌, ◌≢◌, ℕ, ◌*◌, ◌<◌, Bool, true, false, List, [], ◌∷◌, ◌++◌, length, Some, None, refl, sym, ap, subst, ◌∙◌, arith, inl, inr, length-append, append_assoc}
use Rattle.std.specs.List.{slice_get}
use Rattle.std.specs.Prelude.{zero, suc, All, Result, Ok, Err, IfOk, IfErr, IsErrAnd}
use Rattle.std.proofs.lemmas.List.{take-append-drop}
use Rattle.std.proofs.lemmas.List.Elements.{All-head, All-tail}
use Rattle.pulse_isa.specs.declared.instr.Instr.{Instr}
use Rattle.pulse_isa.specs.Spelling.{HasSpelling}
use Rattle.pulse_isa.specs.Words as w
use Rattle.code_verify.specs.declared.bad.Bad.{Bad}
use Rattle.code_verify.specs.declared.bad.Sizes.{Sizes}
use Rattle.code_verify.specs.Rules.{IsFirstBad, BreaksFirst, broken_at}
use Rattle.code_image.specs.declared.fault.ImageFault.{ImageFault}
use Rattle.code_image.specs.declared.fault.ImageFault.TheVariants as f
use Rattle.code_image.specs.declared.header.Header.{Header}
use Rattle.code_image.specs.declared.image.Image.{Image}
use Rattle.code_image.specs.Layout.{header_bytes, IsHeaded}
use Rattle.code_image.specs.Segments.{init_sizes, body_sizes}
use Rattle.code_image.specs.Spelling.{words, OperandsFit, Spells}
use Rattle.code_image.specs.Checks.{IsWords, NoWordFirst, IsBadFirst, RefusesCode, RefusesWords, Refuses, header_fault}
use Rattle.code_image.proofs.WordLaws.{both_words}
use Rattle.code_image.proofs.Unique.{front_same, words_same, spelling_len, header_len, headed_unique}
use Rattle.code_image.proofs.Only.{keeps_all, no_other_word, not_refused}

-- ---- a word that is no spelling

record Begins (code : List Instr) (word : List ℕ) : Type 0 where
  fits : All OperandsFit code
  spelled : All HasSpelling code
  size : length word ≡ 8
  none : (i : Instr) → w.Spells i word → ⊥

tail : (i : Instr) (code : List Instr) (word : List ℕ) → Begins (i ∷ code) word → Begins code word
tail i code word b = record { fits = All-tail OperandsFit i code b.fits; spelled = All-tail HasSpelling i code b.spelled; size = b.size; none = b.none }

no_word_here : (i : Instr) (code : List Instr) (word back rest : List ℕ) → All OperandsFit (i ∷ code) → All HasSpelling (i ∷ code) → length word ≡ 8
    → ((j : Instr) → w.Spells j word → ⊥) → word ++ back ≡ w.spelling i ++ rest → ⊥
no_word_here i code word back rest fits spelled size none e =
    let parts = front_same word (w.spelling i) back rest (size ∙ sym (spelling_len i)) e in
    none i (record { fits = All-head OperandsFit i code fits; width = All-head HasSpelling i code spelled; word = parts.0 })

same_place : (a b : List Instr) (x y back rest : List ℕ) → Begins a x → Begins b y → words a ++ (x ++ back) ≡ words b ++ (y ++ rest) → length a ≡ length b
same_place [] [] x y back rest p q e = refl
same_place [] (j ∷ b) x y back rest p q e =
    absurd (no_word_here j b x back (words b ++ (y ++ rest)) q.fits q.spelled p.size p.none (e ∙ append_assoc (w.spelling j) (words b) (y ++ rest)))
same_place (i ∷ a) [] x y back rest p q e =
    absurd (no_word_here i a y rest (words a ++ (x ++ back)) p.fits p.spelled q.size q.none (sym e ∙ append_assoc (w.spelling i) (words a) (x ++ back)))
same_place (i ∷ a) (j ∷ b) x y back rest p q e =
    let parts = front_same (w.spelling i) (w.spelling j) (words a ++ (x ++ back)) (words b ++ (y ++ rest)) (spelling_len i ∙ sym (spelling_len j))
    (sym (append_assoc (w.spelling i) (words a) (x ++ back)) ∙ e ∙ append_assoc (w.spelling j) (words b) (y ++ rest)) in
    let rest_same = same_place a b x y back rest (tail i a x p) (tail j b y q) parts.1 in
    omega (arith, rest_same)

begins : (bytes : List ℕ) (k : ℕ) (n : NoWordFirst bytes k) → Begins n.before n.word
begins bytes k n = record { fits = n.words.fits; spelled = n.words.spelled; size = n.size; none = n.none }

whole : (bytes : List ℕ) (k : ℕ) (n : NoWordFirst bytes k) → bytes ≡ words n.before ++ (n.word ++ n.back)
whole bytes k n = n.parts ∙ append_assoc n.front n.word n.back ∙ ap (λ l. l ++ (n.word ++ n.back)) n.words.same

one_word : (bytes : List ℕ) (k j : ℕ) → NoWordFirst bytes k → NoWordFirst bytes j → k ≡ j
one_word bytes k j n m =
    sym n.place ∙ same_place n.before m.before n.word m.word n.back m.back (begins bytes k n) (begins bytes j m) (sym (whole bytes k n) ∙ whole bytes j m) ∙ m.place

-- ---- a rule that is broken

same_number : (m n : ℕ) → (m < n → ⊥) → (n < m → ⊥) → m ≡ n
same_number zero zero a b = refl
same_number zero (suc n) a b = absurd (a (omega arith))
same_number (suc m) zero a b = absurd (b (omega arith))
same_number (suc m) (suc n) a b = ap suc (same_number m n (λ l. a (omega (arith, l))) (λ l. b (omega (arith, l))))

-- no rule is broken before the first
not_before : (sizes : Sizes) (code : List Instr) (x y : Bad) → BreaksFirst sizes code x → BreaksFirst sizes code y → x.at < y.at → ⊥
not_before sizes code x y a b lt =
    let none = b.before x.at a.instr lt a.stands in
    let some = a.broken in
    absurd cc

same_bad : (x y : Bad) → x.at ≡ y.at → x.kind ≡ y.kind → x ≡ y
same_bad x y at kind = λ i. record { at = at i; kind = kind i }

one_break : (sizes : Sizes) (code : List Instr) (x y : Bad) → BreaksFirst sizes code x → BreaksFirst sizes code y → x ≡ y
one_break sizes code x y a b =
    let at : x.at ≡ y.at = same_number x.at y.at (not_before sizes code x y a b) (not_before sizes code y x b a) in
    let p = a.stands in
    let q : slice_get code x.at ≡ Some b.instr = subst (λ n. slice_get code n ≡ Some b.instr) (sym at) b.stands in
    let instr : a.instr ≡ b.instr = cc in
    let k = a.broken in
    let l : broken_at sizes code x.at a.instr ≡ Some y.kind =
    subst (λ i. broken_at sizes code x.at i ≡ Some y.kind) (sym instr) (subst (λ n. broken_at sizes code n b.instr ≡ Some y.kind) (sym at) b.broken) in
    let kind : x.kind ≡ y.kind = cc in
    same_bad x y at kind

one_bad : (sizes : Sizes) (code : List Instr) (x y : Bad) → IsFirstBad sizes code x → IsFirstBad sizes code y → x ≡ y
one_bad sizes code x y (inl p) (inl q) = p.1 ∙ sym q.1
one_bad sizes code x y (inl p) (inr (inl q)) = absurd (omega (arith, p.0, q.0))
one_bad sizes code x y (inl p) (inr (inr b)) = absurd (omega (arith, p.0, b.some))
one_bad sizes code x y (inr (inl p)) (inl q) = absurd (omega (arith, p.0, q.0))
one_bad sizes code x y (inr (inl p)) (inr (inl q)) = p.1 ∙ sym q.1
one_bad sizes code x y (inr (inl p)) (inr (inr b)) = absurd (omega (arith, p.0, b.short))
one_bad sizes code x y (inr (inr a)) (inl q) = absurd (omega (arith, q.0, a.some))
one_bad sizes code x y (inr (inr a)) (inr (inl q)) = absurd (omega (arith, q.0, a.short))
one_bad sizes code x y (inr (inr a)) (inr (inr b)) = one_break sizes code x y a b

-- ---- the words of a header

segment_fault : (h : Header) (init_code body_code : List Instr) (x y : Bool) (bad other : Bad) → IsBadFirst h init_code body_code x bad
    → IsBadFirst h init_code body_code y other → f.Bad x bad ≡ f.Bad y other
segment_fault h init_code body_code false false bad other p q = ap (f.Bad false) (one_bad (init_sizes h.args h.pad_size) init_code bad other p q)
segment_fault h init_code body_code true true bad other p q = ap (f.Bad true) (one_bad (body_sizes h.record_size h.pad_size) body_code bad other p.1 q.1)
segment_fault h init_code body_code false true bad other p q = absurd (keeps_all (init_sizes h.args h.pad_size) init_code bad q.0 p)
segment_fault h init_code body_code true false bad other p q = absurd (keeps_all (init_sizes h.args h.pad_size) init_code other p.0 q)

code_fault : (h : Header) (rest : List ℕ) (x y : Bool) (bad other : Bad) → RefusesCode h rest x bad → RefusesCode h rest y other → f.Bad x bad ≡ f.Bad y other
code_fault h rest x y bad other p q =
    let init : p.init_code ≡ q.init_code = words_same _ _ _ _ p.init_words q.init_words refl in
    let body : p.body_code ≡ q.body_code = words_same _ _ _ _ p.body_words q.body_words refl in
    segment_fault h q.init_code q.body_code x y bad other
    (subst (λ c. IsBadFirst h c q.body_code x bad) init (subst (λ c. IsBadFirst h p.init_code c x bad) body p.first)) q.first

-- where a segment is refused, all words are spellings
no_word : (h : Header) (rest : List ℕ) (k : ℕ) (body : Bool) (bad : Bad) → RefusesCode h rest body bad → NoWordFirst rest k → ⊥
no_word h rest k body bad r n =
    no_other_word (r.init_code ++ r.body_code) rest k
    (subst (λ l. IsWords (r.init_code ++ r.body_code) l) (take-append-drop (8 * h.init_words) rest) (both_words r.init_code r.body_code _ _ r.init_words r.body_words)) n

words_fault : (h : Header) (rest : List ℕ) (a b : ImageFault) → RefusesWords h rest a → RefusesWords h rest b → a ≡ b
words_fault h rest a b (inl (k, n, x)) (inl (j, m, y)) = x ∙ ap f.Word (one_word rest k j n m) ∙ sym y
words_fault h rest a b (inl (k, n, x)) (inr (body, bad, r, y)) = absurd (no_word h rest k body bad r n)
words_fault h rest a b (inr (body, bad, r, x)) (inl (k, n, y)) = absurd (no_word h rest k body bad r n)
words_fault h rest a b (inr (body, bad, r, x)) (inr (segment, other, q, y)) = x ∙ code_fault h rest body segment bad other r q ∙ sym y

-- ---- all checks

too_short : (bytes : List ℕ) (h : Header) (rest : List ℕ) → length bytes < 14 → IsHeaded bytes h rest → ⊥
too_short bytes h rest short is =
    let len : length bytes ≡ length (header_bytes h ++ rest) = ap length is.parts in
    omega (arith, short, len, length-append (header_bytes h) rest, header_len h)

one_fault : (bytes : List ℕ) (a b : ImageFault) → Refuses bytes a → Refuses bytes b → a ≡ b
one_fault bytes a b (inl p) (inl q) = p.1 ∙ sym q.1
one_fault bytes a b (inl p) (inr (h, rest, is, r)) = absurd (too_short bytes h rest p.0 is)
one_fault bytes a b (inr (h, rest, is, r)) (inl q) = absurd (too_short bytes h rest q.0 is)
one_fault bytes a b (inr (h, x, p, inl r)) (inr (k, y, q, inl s)) =
    let same = headed_unique bytes h k x y p q in
    let t : header_fault h (length x) ≡ Some b = rw (same.0, same.1) s in
    cc
one_fault bytes a b (inr (h, x, p, inl r)) (inr (k, y, q, inr s)) =
    let same = headed_unique bytes h k x y p q in
    let t : header_fault h (length x) ≡ None = rw (same.0, same.1) s.0 in
    absurd cc
one_fault bytes a b (inr (h, x, p, inr r)) (inr (k, y, q, inl s)) =
    let same = headed_unique bytes h k x y p q in
    let t : header_fault h (length x) ≡ Some b = rw (same.0, same.1) s in
    let none = r.0 in
    absurd cc
one_fault bytes a b (inr (h, x, p, inr r)) (inr (k, y, q, inr s)) =
    let same = headed_unique bytes h k x y p q in
    words_fault h x a b r.1 (subst (λ l. RefusesWords h l b) (sym same.1) (subst (λ m. RefusesWords m y b) (sym same.0) s.1))

pub first : (bytes : List ℕ) (r : Result Image ImageFault) → IfOk r (λ image. Spells bytes image) → IfErr r (λ e. e ≢ f.Memory → Refuses bytes e)
    → (fault : ImageFault) → Refuses bytes fault → IsErrAnd r (λ e. e ≢ f.Memory → e ≡ fault)
first bytes (Ok image) ok err fault refused = absurd (not_refused bytes image fault ok refused)
first bytes (Err e) ok err fault refused = λ other. one_fault bytes e fault (err other) refused
