-- What each command answers to an input of at most 67,108,864 bytes: its output, or why the input is refused.
use Rattle.std.specs.Prelude.{◌≡◌, ◌≢◌, ◌⊎◌, ℕ, ◌≤◌, ◌<◌, true, List, [], ◌++◌, length, slice_get, codes, decimal, position, bytes_eq, Option, Some, None, Result, Ok, Err}
use Rattle.iter_syntax.specs.declared.fault.SyntaxFault.TheVariants as fault
use Rattle.iter_syntax.specs.declared.tree.Iter.{Iter}
use Rattle.iter_syntax.specs.declared.tree.Program.{Program}
use Rattle.iter_syntax.specs.Parsed.{IsProgramOf, ParseAnswer}
use Rattle.iter_syntax.specs.Printed.{printed}
use Rattle.iter_check.specs.Layout as layout
use Rattle.iter_check.specs.FaultList.{fault_list}
use Rattle.code_image.specs.declared.fault.ImageFault.TheVariants as image
use Rattle.code_image.specs.declared.image.Image.{Image}
use Rattle.code_image.specs.Spelling.{Spells}
use Rattle.code_image.specs.Checks.{Refuses}
use Rattle.code_image.specs.Listing.{listing}
use Rattle.pulse_codegen.specs.Compiled.{IsImageOf}
use Rattle.layout_text.specs.Decls.{layout_text}
use Rattle.flat_walk.specs.declared.fault.WalkFault.TheVariants as walk
use Rattle.flat_walk.specs.Answer.{WalkAnswer}
use Rattle.scenario_text.specs.declared.fault.DocFault.TheVariants as doc
use Rattle.replay.specs.Answer.{ReplayAnswer}
use Rattle.node_core.specs.Part.{PartState}
use Rattle.shape_build.specs.declared.shape.Shape.{Shape}
use Rattle.shape_build.specs.Shape.{shape_text}
use Rattle.drill.specs.Answer.{DrillAnswer}
use Rattle.pulse_process.specs.declared.told.Told.{Told}
use Rattle.pulse_process.specs.declared.fault.ProcessFault.{ProcessFault}
use Rattle.pulse_process.specs.declared.fault.ProcessFault.TheVariants as process
use Rattle.pulse_process.specs.Answer.{NodeAnswer, SwitchAnswer, AskAnswer}
use Rattle.pulse_cluster.specs.Answer.{ClusterAnswer}
use Rattle.pulse_words.specs.declared.command.Command.{Command}
use Rattle.pulse_words.specs.declared.command.Command.TheVariants as c
use Rattle.pulse_cli.specs.declared.failure.Refusal.{Refusal}
use Rattle.pulse_cli.specs.declared.failure.Refusal.TheVariants as r
use Rattle.pulse_cli.specs.Sides.{Change, Sides}

-- the accepted program of a text of at most 65,536 bytes
pub record HasProgram (text : List ℕ) (program : Program) : Type 0 where
  pub short : length text ≤ 65536
  pub parsed : IsProgramOf text program
  pub accepted : fault_list program ≡ []

-- why a text has none: it is longer, it has no program, or its program has this first fault
abbrev pub RefusesProgram : List ℕ → Refusal → Type 0
RefusesProgram text r.ProgramLimit = 65536 < length text
RefusesProgram text (r.Lex place) = (length text ≤ 65536) × ParseAnswer text (Err (fault.Lex place))
RefusesProgram text (r.Deep place) = (length text ≤ 65536) × ParseAnswer text (Err (fault.Deep place))
RefusesProgram text (r.Syntax place) = (length text ≤ 65536) × ParseAnswer text (Err (fault.Syntax place))
RefusesProgram text (r.Check kind place) =
    (length text ≤ 65536)
    × ((program : Program) × IsProgramOf text program × (slice_get (fault_list program) 0 ≡ Some (record { kind = kind; place = place })))
RefusesProgram text _ = ⊥

-- the number of a program's iterator of a name
abbrev pub number_of : Program → List ℕ → Option ℕ
number_of program name = position (λ it. bytes_eq (layout.text it.name) name) program.iters

-- the bytes spell an image that means the iterator of a number, and loads no more of its record than it uses
abbrev pub SpellsIter : Program → ℕ → List ℕ → Type 0
SpellsIter program number bytes =
    (it : Iter) × (image : Image) × (slice_get program.iters number ≡ Some it) × IsImageOf program it image × Spells bytes image

-- the bytes spell an image that means the iterator of a name, in the accepted program of a text
abbrev pub CompilesTo : List ℕ → List ℕ → List ℕ → Type 0
CompilesTo text name bytes =
    (program : Program) × (number : ℕ) × HasProgram text program × (number_of program name ≡ Some number) × SpellsIter program number bytes

-- the accepted program of a text has no iterator of a name
abbrev pub LacksIter : List ℕ → List ℕ → Type 0
LacksIter text name = (program : Program) × HasProgram text program × (number_of program name ≡ None)

-- bytes are no image
abbrev pub RefusesImage : List ℕ → Refusal → Type 0
RefusesImage bytes (r.Image fault) = (fault ≢ image.Memory) × Refuses bytes fault
RefusesImage bytes _ = ⊥

-- how many instructions the segments of an image have
abbrev pub verified_text : Image → List ℕ
verified_text image =
    codes "verified init " ++ decimal (length image.init_code) ++ codes " body " ++ decimal (length image.body_code) ++ codes "\n"

-- ---- the answers of each command, of which the last argument is its text or why there is none

abbrev pub AnswersCheck : List ℕ → Result (List ℕ) Refusal → Type 0
AnswersCheck text (Ok output) = (program : Program) × HasProgram text program × (output ≡ layout_text program)
AnswersCheck text (Err refusal) = RefusesProgram text refusal

abbrev pub AnswersFormat : List ℕ → Result (List ℕ) Refusal → Type 0
AnswersFormat text (Ok output) = (program : Program) × HasProgram text program × (output ≡ printed program)
AnswersFormat text (Err refusal) = RefusesProgram text refusal

abbrev pub AnswersCompile : (name text : List ℕ) → Result (List ℕ) Refusal → Type 0
AnswersCompile name text (Ok output) = CompilesTo text name output
AnswersCompile name text (Err refusal) = RefusesProgram text refusal ⊎ ((refusal ≡ r.Iter) × LacksIter text name)

abbrev pub AnswersList : List ℕ → Result (List ℕ) Refusal → Type 0
AnswersList bytes (Ok output) = (image : Image) × Spells bytes image × (output ≡ listing image)
AnswersList bytes (Err refusal) = RefusesImage bytes refusal

abbrev pub AnswersVerify : List ℕ → Result (List ℕ) Refusal → Type 0
AnswersVerify bytes (Ok output) = (image : Image) × Spells bytes image × (output ≡ verified_text image)
AnswersVerify bytes (Err refusal) = RefusesImage bytes refusal

-- a document that is to be walked or replayed has its report, and the yard has the parts of the run more; or it is refused
abbrev pub AnswersWalk : List ℕ → Change (Option (List PartState)) → Result (List ℕ) Refusal → Type 0
AnswersWalk document y (Ok report) = WalkAnswer document y.before y.after (Ok report)
AnswersWalk document y (Err (r.Walk fault)) = (fault ≢ walk.Memory) × WalkAnswer document y.before y.after (Err fault)
AnswersWalk document y (Err _) = ⊥

abbrev pub AnswersReplay : List ℕ → Change (Option (List PartState)) → Result (List ℕ) Refusal → Type 0
AnswersReplay document y (Ok report) = ReplayAnswer document y.before y.after (Ok report)
AnswersReplay document y (Err (r.Document fault)) = (fault ≢ doc.Memory) × ReplayAnswer document y.before y.after (Err fault)
AnswersReplay document y (Err _) = ⊥

-- a generated document is written, or replayed
abbrev pub AnswersShape : Shape → Result (List ℕ) Refusal → Type 0
AnswersShape shape (Ok output) = output ≡ shape_text shape
AnswersShape shape (Err refusal) = ⊥

abbrev pub AnswersDrill : Shape → Change (Option (List PartState)) → Result (List ℕ) Refusal → Type 0
AnswersDrill shape y (Ok output) = DrillAnswer shape y.before y.after (Ok output)
AnswersDrill shape y (Err (r.Document fault)) = (fault ≢ doc.Memory) × DrillAnswer shape y.before y.after (Err fault)
AnswersDrill shape y (Err _) = ⊥

-- a process of a document's scenario tells what it left, or the document is refused
abbrev pub AnswersAs : (Result Told ProcessFault → Type 0) → Result Told Refusal → Type 0
AnswersAs P (Ok told) = P (Ok told)
AnswersAs P (Err (r.Document fault)) = P (Err (process.Document fault))
AnswersAs P (Err (r.Form limit)) = P (Err (process.Form limit))
AnswersAs P (Err _) = ⊥

-- ---- the whole

-- a command that is no process has its text whole
abbrev pub Whole : (Result (List ℕ) Refusal → Type 0) → Result Told Refusal → Type 0
Whole P (Ok told) = P (Ok told.text) × (told.finished ≡ true)
Whole P (Err refusal) = P (Err refusal)

abbrev pub Answers : Command → List ℕ → Sides → Result Told Refusal → Type 0
Answers c.Walk document s result = Whole (AnswersWalk document s.yard) result
Answers c.Replay document s result = Whole (AnswersReplay document s.yard) result
Answers c.Check text s result = Whole (AnswersCheck text) result
Answers c.Format text s result = Whole (AnswersFormat text) result
Answers (c.Compile name) text s result = Whole (AnswersCompile name text) result
Answers c.List bytes s result = Whole (AnswersList bytes) result
Answers c.Verify bytes s result = Whole (AnswersVerify bytes) result
Answers (c.Shape shape) input s result = Whole (AnswersShape shape) result
Answers (c.Drill shape) input s result = Whole (AnswersDrill shape s.yard) result
Answers (c.Node node turns) document s result = AnswersAs (NodeAnswer document node turns (s.net).before (s.net).after (s.yard).before (s.yard).after) result
Answers (c.Switch turns) document s result = AnswersAs (SwitchAnswer document turns (s.net).before (s.net).after) result
Answers (c.Ask client turns) document s result = AnswersAs (AskAnswer document client turns (s.net).before (s.net).after) result
Answers (c.Cluster turns) document s result = AnswersAs (ClusterAnswer document turns (s.net).before (s.net).after (s.kids).before (s.kids).after) result
