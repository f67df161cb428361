-- Which bytes spell a frame: each frame that meets the rules of its fields has one spelling, a header and the pad.
use Rattle.std.specs.Prelude.{◌≡◌, ℕ, ◌≤◌, List, [], ◌++◌, length}
use Rattle.pulse_base.specs.declared.answer.FaultKind.{FaultKind}
use Rattle.pulse_base.specs.declared.answer.FaultKind.TheVariants.{Unmapped, NotReadable, NotWritable, DivZero}
use Rattle.frame_codec.specs.declared.frame.Back.{Back}
use Rattle.frame_codec.specs.declared.frame.Ending.{Ending}
use Rattle.frame_codec.specs.declared.frame.Ending.TheVariants.{Done, Reroute, Resume, Fault}
use Rattle.frame_codec.specs.declared.frame.Frame.{Frame}
use Rattle.frame_codec.specs.declared.frame.Frame.TheVariants as frames
use Rattle.frame_codec.specs.declared.header.Header.{Header}
use Rattle.frame_codec.specs.Layout.{header_bytes, HeaderFits}

abbrev pub fault_number : FaultKind → ℕ
fault_number Unmapped = 1
fault_number NotReadable = 2
fault_number NotWritable = 3
fault_number DivZero = 4

abbrev pub ending_number : Ending → ℕ
ending_number Done = 1
ending_number Reroute = 2
ending_number Resume = 3
ending_number (Fault kind) = 4

-- the number of the fault where there is one
abbrev pub ending_fault : Ending → ℕ
ending_fault Done = 0
ending_fault Reroute = 0
ending_fault Resume = 0
ending_fault (Fault kind) = fault_number kind

-- magic is the bytes 50 4c
abbrev pub header_of : Frame → Header
header_of (frames.Leg leg) = record {
  magic = 0x4c50;
  version = 1;
  kind = 1;
  client = leg.client;
  request = leg.request;
  leg = leg.leg;
  program = leg.program;
  left = leg.left;
  ending = 0;
  fault = 0;
  cur = leg.cur;
  pad_len = length leg.pad;
}
header_of (frames.Back back) = record {
  magic = 0x4c50;
  version = 1;
  kind = 2;
  client = back.client;
  request = back.request;
  leg = back.leg;
  program = back.program;
  left = back.left;
  ending = ending_number back.ending;
  fault = ending_fault back.ending;
  cur = back.cur;
  pad_len = length back.pad;
}
header_of frames.Stop = record {
  magic = 0x4c50;
  version = 1;
  kind = 3;
  client = 0;
  request = 0;
  leg = 0;
  program = 0;
  left = 0;
  ending = 0;
  fault = 0;
  cur = 0;
  pad_len = 0;
}

abbrev pub pad_of : Frame → List ℕ
pad_of (frames.Leg leg) = leg.pad
pad_of (frames.Back back) = back.pad
pad_of frames.Stop = []

abbrev pub frame_bytes : Frame → List ℕ
frame_bytes frame = header_bytes (header_of frame) ++ pad_of frame

-- The rules of the fields. A leg has an iteration left. A back that is done stands nowhere; one that is rerouted or
-- faulted has an iteration left; one that resumes has none.
abbrev pub EndsBy : Ending → Back → Type 0
EndsBy Done back = back.cur ≡ 0
EndsBy Reroute back = 1 ≤ back.left
EndsBy Resume back = back.left ≡ 0
EndsBy (Fault kind) back = 1 ≤ back.left

abbrev pub MeetsRules : Frame → Type 0
MeetsRules (frames.Leg leg) = 1 ≤ leg.left
MeetsRules (frames.Back back) = EndsBy back.ending back
MeetsRules frames.Stop = Unit {0}

-- a pad has 1 to 256 bytes
abbrev pub PadFits : List ℕ → Type 0
PadFits pad = (1 ≤ length pad) × (length pad ≤ 256)

abbrev pub HasPad : Frame → Type 0
HasPad (frames.Leg leg) = PadFits leg.pad
HasPad (frames.Back back) = PadFits back.pad
HasPad frames.Stop = Unit {0}

-- The frame's numbers fit their types, it meets the rules of its fields, and the bytes are its spelling.
pub record Spells (bytes : List ℕ) (frame : Frame) : Type 0 where
  pub numbers : HeaderFits (header_of frame)
  pub pad : HasPad frame
  pub rules : MeetsRules frame
  pub spelling : bytes ≡ frame_bytes frame
