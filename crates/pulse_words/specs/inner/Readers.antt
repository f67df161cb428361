-- What each reader makes of the words, by the word that they are to begin with.
use Rattle.std.specs.Prelude.{◌≡◌, ◌<◌, ◌^◌, ℕ, List, [], ◌∷◌, decimal}
use Rattle.shape_build.specs.Shape.{kind_word, InRange}
use Rattle.shape_build.specs.declared.shape.Shape.{Shape}
use Rattle.pulse_words.specs.Words.{AreTurns}

abbrev pub IsPartWord : List ℕ → ℕ → Type 0
IsPartWord word n = (word ≡ decimal n) × (n < 2 ^ 16)

abbrev pub AreTurnsWord : List ℕ → ℕ → Type 0
AreTurnsWord word turns = (word ≡ decimal turns) × AreTurns turns

-- the words behind `shape` and `drill`
pub record AsksFor (first second third : List ℕ) (shape : Shape) : Type 0 where
  pub kind : first ≡ kind_word shape.kind
  pub count : second ≡ decimal shape.count
  pub seed : third ≡ decimal shape.seed
  pub range : InRange shape

abbrev pub NamesDocument : (first : List ℕ) → List (List ℕ) → Shape → Type 0
NamesDocument first words shape =
    (words ≡ first ∷ kind_word shape.kind ∷ decimal shape.count ∷ decimal shape.seed ∷ []) × InRange shape

abbrev pub NamesPart : (first : List ℕ) → List (List ℕ) → (n turns : ℕ) → Type 0
NamesPart first words n turns = (words ≡ first ∷ decimal n ∷ decimal turns ∷ []) × (n < 2 ^ 16) × AreTurns turns

abbrev pub NamesTurns : (first : List ℕ) → List (List ℕ) → (turns : ℕ) → Type 0
NamesTurns first words turns = (words ≡ first ∷ decimal turns ∷ []) × AreTurns turns
