-- Nothing is wrong with the spelling of a frame, and a header with which nothing is wrong is that of a frame.
use Rattle.std.proofs.Common.{◌≡◌, ℕ, ◌≤◌, List, ◌++◌, length, Bool, true, false, Option, Some, None, refl, sym, ap, subst, ◌∙◌, arith, inl, inr}
use Rattle.std.specs.Prelude.{not, if◌then◌else◌, nat_lt, nat_le, ◌==◌}
use Rattle.std.proofs.lemmas.Bool.{and_parts, eqb-true, leb-true}
use Rattle.std.proofs.lemmas.List.{nil_from_length}
use Rattle.std.proofs.lemmas.Bool.Decides.{nat_tests}
use Rattle.frame_codec.specs.declared.frame.Back.{Back}
use Rattle.frame_codec.specs.declared.frame.Ending.{Ending}
use Rattle.frame_codec.specs.declared.frame.Ending.TheVariants.{Done, Reroute, Resume, Fault}
use Rattle.frame_codec.specs.declared.frame.Frame.{Frame}
use Rattle.frame_codec.specs.declared.frame.Frame.TheVariants as frames
use Rattle.pulse_base.specs.declared.answer.FaultKind.{FaultKind}
use Rattle.pulse_base.specs.declared.answer.FaultKind.TheVariants.{Unmapped, NotReadable, NotWritable, DivZero}
use Rattle.frame_codec.specs.declared.bad_frame.BadFrame.{BadFrame}
use Rattle.frame_codec.specs.declared.bad_frame.BadFrame.TheVariants.{Short, Magic, Version, Kind, Field, Long}
use Rattle.frame_codec.specs.declared.header.Header.{Header}
use Rattle.frame_codec.specs.Layout.{header_bytes, HeaderFits, IsHeaded}
use Rattle.frame_codec.specs.Spelling.{header_of, pad_of, PadFits, HasPad, MeetsRules, EndsBy, Spells, fault_number, ending_number, ending_fault}
use Rattle.frame_codec.specs.Checks.{within, ending_rules, back_rules, stop_rules, field_rules, first_fault, Refuses}
use Rattle.frame_codec.specs.Parts.{IsMadeOf}
use Rattle.frame_codec.proofs.Headers.{same_header, headed_unique}

fault_within : (kind : FaultKind) → (1 ≤ fault_number kind) × (fault_number kind ≤ 4)
fault_within Unmapped = (omega arith, omega arith)
fault_within NotReadable = (omega arith, omega arith)
fault_within NotWritable = (omega arith, omega arith)
fault_within DivZero = (omega arith, omega arith)

-- the last case of passes, by cases on the ending
back_passes : (ending : Ending) (back : Back) → PadFits back.pad → EndsBy ending back → first_fault (header_of (frames.Back (record back { ending = ending }))) (length back.pad) ≡ None
back_passes Done back pad rules = grind (arith, nat_tests)
back_passes Reroute back pad rules = grind (arith, nat_tests)
back_passes Resume back pad rules = grind (arith, nat_tests)
back_passes (Fault kind) back pad rules = let k = fault_within kind in grind (arith, nat_tests)

pub passes : (frame : Frame) → HasPad frame → MeetsRules frame → first_fault (header_of frame) (length (pad_of frame)) ≡ None
passes (frames.Leg leg) pad rules = grind (arith, nat_tests)
passes (frames.Back back) pad rules = back_passes back.ending back pad rules
passes frames.Stop pad rules = refl

-- a stop by its rules
stop_numbers : (h : Header) → stop_rules h ≡ true → (h.client ≡ 0) × (h.request ≡ 0) × (h.leg ≡ 0) × (h.program ≡ 0) × (h.left ≡ 0) × (h.ending ≡ 0) × (h.fault ≡ 0) × (h.cur ≡ 0) × (h.pad_len ≡ 0)
stop_numbers h e =
    let to_pad_len = and_parts _ _ e in
    let to_cur = and_parts _ _ to_pad_len.0 in
    let to_fault = and_parts _ _ to_cur.0 in
    let to_ending = and_parts _ _ to_fault.0 in
    let to_left = and_parts _ _ to_ending.0 in
    let to_program = and_parts _ _ to_left.0 in
    let to_leg = and_parts _ _ to_program.0 in
    let to_request = and_parts _ _ to_leg.0 in (
      eqb-true _ _ to_request.0,
      eqb-true _ _ to_request.1,
      eqb-true _ _ to_leg.1,
      eqb-true _ _ to_program.1,
      eqb-true _ _ to_left.1,
      eqb-true _ _ to_ending.1,
      eqb-true _ _ to_fault.1,
      eqb-true _ _ to_cur.1,
      eqb-true _ _ to_pad_len.1,
    )

-- of a header with which nothing is wrong, what the checks before the rules of a kind say
record Checked (h : Header) (after : ℕ) : Type 0 where
  magic : h.magic ≡ 0x4c50
  version : h.version ≡ 1
  kind : within 1 3 h.kind ≡ true
  rules : field_rules h ≡ true
  whole : after ≡ h.pad_len

-- a check that passes, and those after it
passed : (b : Bool) (bad : BadFrame) (rest : Option BadFrame) → (if not b then Some bad else rest) ≡ None → (b ≡ true) × (rest ≡ None)
passed true bad rest e = (refl, e)
passed false bad rest e = absurd cc

whole_pad : (after len : ℕ) → (if nat_lt after len then Some Short else if nat_lt len after then Some Long else None) ≡ None → after ≡ len
whole_pad after len e = grind (arith, nat_tests)

checked : (h : Header) (after : ℕ) → first_fault h after ≡ None → Checked h after
checked h after e =
    let magic = passed (h.magic == 0x4c50) Magic _ e in
    let version = passed (h.version == 1) Version _ magic.1 in
    let kind = passed (within 1 3 h.kind) Kind _ version.1 in
    let rules = passed (field_rules h) Field _ kind.1 in
    record {
      magic = eqb-true _ _ magic.0;
      version = eqb-true _ _ version.0;
      kind = kind.0;
      rules = rules.0;
      whole = whole_pad after h.pad_len rules.1;
    }

within_parts : (low high n : ℕ) → within low high n ≡ true → (low ≤ n) × (n ≤ high)
within_parts low high n e =
    let both = and_parts (nat_le low n) (nat_le n high) e in
    (leb-true _ _ both.0, leb-true _ _ both.1)

-- the rules of the kind
back_checked : (h : Header) → field_rules h ≡ true → h.kind ≡ 2 → back_rules h ≡ true
back_checked h rules kind = grind (arith, nat_tests)

stop_checked : (h : Header) → field_rules h ≡ true → within 1 3 h.kind ≡ true → (h.kind ≡ 1 → ⊥) → (h.kind ≡ 2 → ⊥) → (h.kind ≡ 3) × (stop_rules h ≡ true)
stop_checked h rules kind leg back =
    let bounds = within_parts 1 3 h.kind kind in
    let three : h.kind ≡ 3 = omega arith in
    (three, grind (arith, nat_tests))

-- the pad of a back
pub back_pad : (h : Header) (pad : List ℕ) → first_fault h (length pad) ≡ None → h.kind ≡ 2 → PadFits pad
back_pad h pad e kind =
    let so = checked h (length pad) e in
    let rules = and_parts (within 1 256 h.pad_len) (ending_rules h) (back_checked h so.rules kind) in
    subst (λ (len : ℕ). (1 ≤ len) × (len ≤ 256)) (sym so.whole) (within_parts 1 256 h.pad_len rules.0)

back_ending : (h : Header) (after : ℕ) → first_fault h after ≡ None → h.kind ≡ 2 → ending_rules h ≡ true
back_ending h after e kind = (and_parts (within 1 256 h.pad_len) (ending_rules h) (back_checked h (checked h after e).rules kind)).1

ends_by : (ending : Ending) (h : Header) (back : Back) → ending_rules h ≡ true → ending_number ending ≡ h.ending → back.cur ≡ h.cur → back.left ≡ h.left → EndsBy ending back
ends_by Done h back rules number cur left = grind (arith, nat_tests)
ends_by Reroute h back rules number cur left = grind (arith, nat_tests)
ends_by Resume h back rules number cur left = grind (arith, nat_tests)
ends_by (Fault kind) h back rules number cur left = grind (arith, nat_tests)

-- the back and the stop of a header with which nothing is wrong
pub back_made : (h : Header) (pad bytes : List ℕ) (ending : Ending) → first_fault h (length pad) ≡ None → h.kind ≡ 2 → bytes ≡ pad → ending_number ending ≡ h.ending → ending_fault ending ≡ h.fault
    → IsMadeOf (frames.Back (record { client = h.client; request = h.request; leg = h.leg; program = h.program; left = h.left; cur = h.cur; pad = bytes; ending = ending })) h pad
back_made h pad bytes ending e kind same number fault =
    let so = checked h (length pad) e in
    record {
      numbers = same_header _ h (sym so.magic) (sym so.version) (sym kind) refl refl refl refl refl number fault refl (ap length same ∙ so.whole);
      bytes = same;
      has_pad = subst PadFits (sym same) (back_pad h pad e kind);
      rules = ends_by ending h _ (back_ending h (length pad) e kind) number refl refl;
    }

pub stop_made : (h : Header) (pad : List ℕ) → first_fault h (length pad) ≡ None → (h.kind ≡ 1 → ⊥) → (h.kind ≡ 2 → ⊥) → IsMadeOf frames.Stop h pad
stop_made h pad e leg back =
    let so = checked h (length pad) e in
    let stop = stop_checked h so.rules so.kind leg back in
    let n = stop_numbers h stop.1 in
    record {
      numbers = same_header _ h (sym so.magic) (sym so.version) (sym stop.0) (sym n.0) (sym n.1) (sym n.2) (sym n.3) (sym n.4) (sym n.5) (sym n.6) (sym n.7) (sym n.8);
      bytes = sym (nil_from_length pad (so.whole ∙ n.8));
      has_pad = tt;
      rules = tt;
    }

-- what heads a spelling passes the checks
pub spelled_passes : (bytes : List ℕ) (h : Header) (rest : List ℕ) (frame : Frame) → IsHeaded bytes h rest → Spells bytes frame → first_fault h (length rest) ≡ None
spelled_passes bytes h rest frame headed spells =
    let same = headed_unique bytes h (header_of frame) rest (pad_of frame) headed (record { fits = spells.numbers; parts = spells.spelling }) in
    rw (same.0, same.1) (passes frame spells.pad spells.rules)

-- bytes that are headed are refused for one fault alone
pub refused_first : (bytes : List ℕ) (h : Header) (rest : List ℕ) (bad : BadFrame) → 30 ≤ length bytes → IsHeaded bytes h rest → Refuses bytes bad → first_fault h (length rest) ≡ Some bad
refused_first bytes h rest bad long headed (inl short) = absurd (let s = short.0 in omega arith)
refused_first bytes h rest bad long headed (inr other) =
    let same = headed_unique bytes h other.0 rest other.1 headed other.2 in
    rw (same.0, same.1) other.3

-- a header and a pad as they were written
pub spells_by : (bytes : List ℕ) (frame : Frame) (h : Header) (pad : List ℕ) → HeaderFits h → h ≡ header_of frame → pad ≡ pad_of frame → HasPad frame → MeetsRules frame
    → bytes ≡ header_bytes h ++ pad → Spells bytes frame
spells_by bytes frame h pad fits numbers same has_pad rules parts = record {
  numbers = subst HeaderFits numbers fits;
  pad = has_pad;
  rules = rules;
  spelling = parts ∙ ap (λ (k : Header). header_bytes k ++ pad) numbers ∙ ap (λ (p : List ℕ). header_bytes (header_of frame) ++ p) same;
}
