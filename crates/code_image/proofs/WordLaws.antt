-- The words of instructions: one word more, and the first that is no spelling.
use Rattle.std.proofs.Common.{◌≡◌, ℕ, ◌+◌, ◌*◌, ◌≤◌, List, [], ◌∷◌, ◌++◌, length, take, drop, refl, sym, ap, ◌∙◌, arith, append_assoc, length-take, length-drop, length-append}
use Rattle.std.proofs.lemmas.List.{append-nil, take-append-drop}
use Rattle.std.proofs.lemmas.List.Elements.{All-push, All-nil, All-append}
use Rattle.std.proofs.Math.Seq.{take-add}
use Rattle.pulse_isa.specs.declared.instr.Instr.{Instr}
use Rattle.pulse_isa.specs.Spelling.{HasSpelling}
use Rattle.pulse_isa.specs.Words.{Spells, spelling}
use Rattle.code_image.specs.Spelling.{words, OperandsFit}
use Rattle.code_image.specs.Checks.{IsWords, NoWordFirst}

pub words_push : (code : List Instr) (i : Instr) → words (code ++ i ∷ []) ≡ words code ++ spelling i
words_push [] i = append-nil (spelling i)
words_push (j ∷ code) i = ap (λ rest. spelling j ++ rest) (words_push code i) ∙ sym (append_assoc (spelling j) (words code) (spelling i))

pub none_yet : (bytes : List ℕ) → IsWords [] (take 0 bytes)
none_yet bytes = record { fits = All-nil OperandsFit; spelled = All-nil HasSpelling; same = refl }

pub one_more : (code : List Instr) (bytes : List ℕ) (k : ℕ) (i : Instr) → IsWords code (take (8 * k) bytes) → Spells i (take 8 (drop (8 * k) bytes))
    → IsWords (code ++ i ∷ []) (take (8 * (k + 1)) bytes)
one_more code bytes k i is s =
    let at : 8 * (k + 1) ≡ 8 * k + 8 = omega arith in
    record {
      fits = All-push OperandsFit code i is.fits s.fits;
      spelled = All-push HasSpelling code i is.spelled s.width;
      same = ap (λ n. take n bytes) at ∙ take-add (8 * k) 8 bytes ∙ ap (λ front. front ++ take 8 (drop (8 * k) bytes)) is.same
          ∙ ap (λ word. words code ++ word) s.word ∙ sym (words_push code i);
    }

pub no_word : (code : List Instr) (bytes : List ℕ) (k : ℕ) → IsWords code (take (8 * k) bytes) → length code ≡ k → 8 * k + 8 ≤ length bytes
    → ((i : Instr) → Spells i (take 8 (drop (8 * k) bytes)) → ⊥) → NoWordFirst bytes k
no_word code bytes k is len room none =
    let front = take (8 * k) bytes in
    let behind = drop (8 * k) bytes in
    record {
      before = code;
      front = front;
      word = take 8 behind;
      back = drop 8 behind;
      parts = sym (append_assoc front (take 8 behind) (drop 8 behind) ∙ ap (λ r. front ++ r) (take-append-drop 8 behind) ∙ take-append-drop (8 * k) bytes);
      words = is;
      place = len;
      size = omega (arith, length-take 8 behind, length-drop (8 * k) bytes);
      none = none;
    }

-- the words of two lists of instructions
pub words_append : (a b : List Instr) → words (a ++ b) ≡ words a ++ words b
words_append [] b = refl
words_append (i ∷ a) b = ap (λ r. spelling i ++ r) (words_append a b) ∙ sym (append_assoc (spelling i) (words a) (words b))

pub both_words : (a b : List Instr) (x y : List ℕ) → IsWords a x → IsWords b y → IsWords (a ++ b) (x ++ y)
both_words a b x y p q = record {
  fits = All-append OperandsFit a b p.fits q.fits;
  spelled = All-append HasSpelling a b p.spelled q.spelled;
  same = ap (λ l. l ++ y) p.same ∙ ap (λ l. words a ++ l) q.same ∙ sym (words_append a b);
}

-- a bad word of the first segment, and of the second, is one of all words
pub in_front : (rest : List ℕ) (n k : ℕ) → NoWordFirst (take n rest) k → NoWordFirst rest k
in_front rest n k w = record {
  before = w.before;
  front = w.front;
  word = w.word;
  back = w.back ++ drop n rest;
  parts = sym (take-append-drop n rest) ∙ ap (λ l. l ++ drop n rest) w.parts ∙ append_assoc (w.front ++ w.word) w.back (drop n rest);
  words = w.words;
  place = w.place;
  size = w.size;
  none = w.none;
}

pub behind : (code : List Instr) (rest : List ℕ) (n k : ℕ) → IsWords code (take (8 * n) rest) → length code ≡ n → NoWordFirst (drop (8 * n) rest) k
    → NoWordFirst rest (n + k)
behind code rest n k is len w =
    let head = take (8 * n) rest in
    record {
      before = code ++ w.before;
      front = head ++ w.front;
      word = w.word;
      back = w.back;
      parts = sym (take-append-drop (8 * n) rest) ∙ ap (λ l. head ++ l) (w.parts ∙ append_assoc w.front w.word w.back)
          ∙ sym (append_assoc (head ++ w.front) w.word w.back ∙ append_assoc head w.front (w.word ++ w.back));
      words = both_words code w.before head w.front is w.words;
      place = omega (arith, length-append code w.before, len, w.place);
      size = w.size;
      none = w.none;
    }
