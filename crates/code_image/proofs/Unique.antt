-- Bytes spell one image: words, headers, and both.
use Rattle.std.proofs.Common.{◌≡◌, ℕ, ◌*◌, ◌^◌, ◌<◌, List, [], ◌∷◌, ◌++◌, length, refl, sym, ap, ◌∙◌, arith, length-append}
use Rattle.std.specs.Prelude.{All}
use Rattle.std.specs.Int.{Width, w8, w16, w32, byte_len, to_le_bytes, from_le_bytes}
use Rattle.std.proofs.lemmas.Nat.{from_le_bytes-to_le_bytes_2, from_le_bytes-to_le_bytes_4}
use Rattle.std.proofs.lemmas.List.Elements.{All-head, All-tail}
use Rattle.pulse_isa.specs.declared.instr.Instr.{Instr}
use Rattle.pulse_isa.specs.declared.row.Operands.{Operands}
use Rattle.pulse_isa.specs.declared.row.Operands.TheVariants as o
use Rattle.pulse_isa.specs.Spelling.{HasSpelling}
use Rattle.pulse_isa.specs.Table.{row}
use Rattle.pulse_isa.specs.Words.{placed, spelling}
use Rattle.pulse_isa.proofs.Words.{spells_one}
use Rattle.code_image.specs.declared.header.Header.{Header}
use Rattle.code_image.specs.declared.image.Image.{Image}
use Rattle.code_image.specs.Layout.{header_bytes, HeaderFits, IsHeaded}
use Rattle.code_image.specs.Spelling.{words, header_of, OperandsFit, Spells}
use Rattle.code_image.specs.Checks.{IsWords}

-- two fronts of one length
pub front_same : (a b x y : List ℕ) → length a ≡ length b → a ++ x ≡ b ++ y → (a ≡ b) × (x ≡ y)
front_same [] [] x y l e = (refl, e)
front_same [] (d ∷ b) x y l e = absurd (omega arith)
front_same (c ∷ a) [] x y l e = absurd (omega arith)
front_same (c ∷ a) (d ∷ b) x y l e =
    let rest = front_same a b x y (omega arith) cc in
    let head : c ≡ d = cc in
    (cc, rest.1)

-- ---- words

-- a word has eight bytes
placed_len : (opcode : ℕ) (s : Operands) → length (placed opcode s) ≡ 8
placed_len opcode (o.Window off len) = refl
placed_len opcode (o.Access a w off) = refl
placed_len opcode (o.Register a) = refl
placed_len opcode (o.Constant a imm) = refl
placed_len opcode (o.TwoRegisters a b) = refl
placed_len opcode (o.ThreeRegisters a b c) = refl
placed_len opcode (o.Target to) = refl
placed_len opcode (o.Branch a b to) = refl
placed_len opcode o.Nothing = refl

pub spelling_len : (i : Instr) → length (spelling i) ≡ 8
spelling_len i = placed_len (row i).opcode (row i).operands

pub words_bytes : (code : List Instr) → length (words code) ≡ 8 * length code
words_bytes [] = refl
words_bytes (i ∷ code) = omega (arith, length-append (spelling i) (words code), spelling_len i, words_bytes code)

-- what begins with a word is not empty
pub no_end : (i : Instr) (x : List ℕ) → [] ≡ spelling i ++ x → ⊥
no_end i x e =
    let l : 0 ≡ length (spelling i ++ x) = ap length e in
    omega (arith, l, length-append (spelling i) x, spelling_len i)

codes_same : (a b : List Instr) → All OperandsFit a → All HasSpelling a → All OperandsFit b → All HasSpelling b → words a ≡ words b → a ≡ b
codes_same [] [] fa sa fb sb e = refl
codes_same [] (j ∷ b) fa sa fb sb e = absurd (no_end j (words b) e)
codes_same (i ∷ a) [] fa sa fb sb e = absurd (no_end i (words a) (sym e))
codes_same (i ∷ a) (j ∷ b) fa sa fb sb e =
    let parts = front_same (spelling i) (spelling j) (words a) (words b) (spelling_len i ∙ sym (spelling_len j)) e in
    let one : i ≡ j = spells_one i j (spelling i)
    (record { fits = All-head OperandsFit i a fa; width = All-head HasSpelling i a sa; word = refl })
    (record { fits = All-head OperandsFit j b fb; width = All-head HasSpelling j b sb; word = parts.0 }) in
    let rest = codes_same a b (All-tail OperandsFit i a fa) (All-tail HasSpelling i a sa) (All-tail OperandsFit j b fb) (All-tail HasSpelling j b sb) parts.1 in
    cc

pub words_same : (a b : List Instr) (x y : List ℕ) → IsWords a x → IsWords b y → x ≡ y → a ≡ b
words_same a b x y p q e = codes_same a b p.fits p.spelled q.fits q.spelled (sym p.same ∙ e ∙ q.same)

-- ---- headers

-- a width, and the numbers that fit it
record IsWide (w : Width) (limit : ℕ) : Type 0 where
  len : (n : ℕ) → length (to_le_bytes w n) ≡ byte_len w
  again : (n : ℕ) → n < limit → from_le_bytes w (to_le_bytes w n) ≡ n

wide8 : IsWide w8 (2 ^ 8)
wide8 = record { len = λ n. refl; again = λ n lt. omega arith }

wide16 : IsWide w16 (2 ^ 16)
wide16 = record { len = λ n. refl; again = λ n lt. from_le_bytes-to_le_bytes_2 n lt }

wide32 : IsWide w32 (2 ^ 32)
wide32 = record { len = λ n. refl; again = λ n lt. from_le_bytes-to_le_bytes_4 n lt }

number_same : (w : Width) (limit : ℕ) → IsWide w limit → (m n : ℕ) (x y : List ℕ) → m < limit → n < limit → to_le_bytes w m ++ x ≡ to_le_bytes w n ++ y → (m ≡ n) × (x ≡ y)
number_same w limit wide m n x y lm ln e =
    let parts = front_same (to_le_bytes w m) (to_le_bytes w n) x y (wide.len m ∙ sym (wide.len n)) e in
    (sym (wide.again m lm) ∙ ap (from_le_bytes w) parts.0 ∙ wide.again n ln, parts.1)

same_header : (h k : Header) → h.magic ≡ k.magic → h.version ≡ k.version → h.args ≡ k.args → h.record_size ≡ k.record_size → h.pad_size ≡ k.pad_size
    → h.init_words ≡ k.init_words → h.body_words ≡ k.body_words → h ≡ k
same_header h k magic version args record_size pad_size init_words body_words =
    λ i. record { magic = magic i; version = version i; args = args i; record_size = record_size i; pad_size = pad_size i; init_words = init_words i; body_words = body_words i }

pub header_len : (h : Header) → length (header_bytes h) ≡ 14
header_len h = refl

header_unique : (h k : Header) (x y : List ℕ) → HeaderFits h → HeaderFits k → header_bytes h ++ x ≡ header_bytes k ++ y → (h ≡ k) × (x ≡ y)
header_unique h k x y f g e =
    let magic = number_same w32 (2 ^ 32) wide32 h.magic k.magic _ _ f.magic g.magic e in
    let version = number_same w8 (2 ^ 8) wide8 h.version k.version _ _ f.version g.version magic.1 in
    let args = number_same w8 (2 ^ 8) wide8 h.args k.args _ _ f.args g.args version.1 in
    let record_size = number_same w16 (2 ^ 16) wide16 h.record_size k.record_size _ _ f.record_size g.record_size args.1 in
    let pad_size = number_same w16 (2 ^ 16) wide16 h.pad_size k.pad_size _ _ f.pad_size g.pad_size record_size.1 in
    let init_words = number_same w16 (2 ^ 16) wide16 h.init_words k.init_words _ _ f.init_words g.init_words pad_size.1 in
    let body_words = number_same w16 (2 ^ 16) wide16 h.body_words k.body_words _ _ f.body_words g.body_words init_words.1 in
    (same_header h k magic.0 version.0 args.0 record_size.0 pad_size.0 init_words.0 body_words.0, body_words.1)

-- ---- images

pub headed_unique : (bytes : List ℕ) (h k : Header) (x y : List ℕ) → IsHeaded bytes h x → IsHeaded bytes k y → (h ≡ k) × (x ≡ y)
headed_unique bytes h k x y p q = header_unique h k x y p.fits q.fits (sym p.parts ∙ q.parts)

pub headed : (bytes : List ℕ) (image : Image) → Spells bytes image → IsHeaded bytes (header_of image) (words image.init_code ++ words image.body_code)
headed bytes image s = record { fits = s.numbers; parts = s.spelling }
