-- The checks of bytes that may be an image, in their order, and the first that fails.
use Rattle.std.specs.Prelude.{◌≡◌, ℕ, ◌+◌, ◌*◌, ◌<◌, Bool, true, false, not, ◌&&◌, List, ◌++◌, length, take, drop, Option, Some, None, if◌then◌else◌, nat_lt, nat_le, ◌==◌, ◌⊎◌, All}
use Rattle.pulse_isa.specs.declared.instr.Instr.{Instr}
use Rattle.pulse_isa.specs.Spelling.{HasSpelling}
use Rattle.pulse_isa.specs.Words as w
use Rattle.code_verify.specs.declared.bad.Bad.{Bad}
use Rattle.code_verify.specs.Rules.{Verified, IsFirstBad}
use Rattle.code_image.specs.declared.header.Header.{Header}
use Rattle.code_image.specs.declared.fault.ImageFault.{ImageFault}
use Rattle.code_image.specs.declared.fault.ImageFault.TheVariants as f
use Rattle.code_image.specs.Segments.{init_sizes, body_sizes}
use Rattle.code_image.specs.Layout.{IsHeaded}
use Rattle.code_image.specs.Spelling.{words, OperandsFit}

abbrev pub within : ℕ → ℕ → ℕ → Bool
within low high n = nat_le low n && nat_le n high

-- at most 8 arguments; a record and a pad have 1 to 256 bytes
abbrev pub sizes_fit : Header → Bool
sizes_fit h = nat_le h.args 8 && within 1 256 h.record_size && within 1 256 h.pad_size

-- the bytes of the words that the header counts
abbrev pub words_len : Header → ℕ
words_len h = 8 * (h.init_words + h.body_words)

-- the first check of the header that fails where so many bytes follow it
abbrev pub header_fault : Header → ℕ → Option ImageFault
header_fault h after =
    if not (h.magic == 0x4d494c50) then Some f.Magic
    else if not (h.version == 1) then Some f.Version
    else if not (sizes_fit h) then Some f.Size
    else if nat_lt after (words_len h) then Some f.Short
    else if nat_lt (words_len h) after then Some f.Long
    else None

-- the bytes are the words of these instructions
pub record IsWords (code : List Instr) (bytes : List ℕ) : Type 0 where
  pub fits : All OperandsFit code
  pub spelled : All HasSpelling code
  pub same : bytes ≡ words code

-- word k of the bytes is no spelling, and all words before it are
pub record NoWordFirst (bytes : List ℕ) (k : ℕ) : Type 0 where
  pub before : List Instr
  pub front : List ℕ
  pub word : List ℕ
  pub back : List ℕ
  pub parts : bytes ≡ front ++ word ++ back
  pub words : IsWords before front
  pub place : length before ≡ k
  pub size : length word ≡ 8
  pub none : (i : Instr) → w.Spells i word → ⊥

-- the first rule that a segment breaks, init first
abbrev pub IsBadFirst : Header → List Instr → List Instr → Bool → Bad → Type 0
IsBadFirst h init_code body_code false bad = IsFirstBad (init_sizes h.args h.pad_size) init_code bad
IsBadFirst h init_code body_code true bad =
    Verified (init_sizes h.args h.pad_size) init_code × IsFirstBad (body_sizes h.record_size h.pad_size) body_code bad

-- all words are spellings, and a segment is not verified
pub record RefusesCode (h : Header) (rest : List ℕ) (body : Bool) (bad : Bad) : Type 0 where
  pub init_code : List Instr
  pub body_code : List Instr
  pub init_words : IsWords init_code (take (8 * h.init_words) rest)
  pub body_words : IsWords body_code (drop (8 * h.init_words) rest)
  pub first : IsBadFirst h init_code body_code body bad

-- the words behind a header in order are refused for this
abbrev pub RefusesWords : Header → List ℕ → ImageFault → Type 0
RefusesWords h rest fault =
    ((k : ℕ) × NoWordFirst rest k × (fault ≡ f.Word k))
    ⊎ ((body : Bool) × (bad : Bad) × RefusesCode h rest body bad × (fault ≡ f.Bad body bad))

-- the bytes are refused for this
abbrev pub Refuses : List ℕ → ImageFault → Type 0
Refuses bytes fault =
    ((length bytes < 14) × (fault ≡ f.Short))
    ⊎ ((h : Header) × (rest : List ℕ) × IsHeaded bytes h rest
    × ((header_fault h (length rest) ≡ Some fault) ⊎ ((header_fault h (length rest) ≡ None) × RefusesWords h rest fault)))
