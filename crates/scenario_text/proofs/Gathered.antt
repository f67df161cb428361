-- What the entries of a list give, where no check of them fails.
use Rattle.std.proofs.Common.{◌≡◌, ◌+◌, ℕ, zero, suc, Bool, true, List, length, Option, Some, None, is_some, option_map, arith, refl, ap, sym, ◌∙◌, add-zero}
use Rattle.std.proofs.lemmas.Bool.{and_parts}
use Rattle.std.proofs.lemmas.List.Elements.{All-nil, All-cons}
use Rattle.std.specs.Prelude.{All, option_and_then, slice_get}
use Rattle.toml.specs.Data.{Data, Items, no_items, item, Members, as_table}
use Rattle.scenario_text.specs.declared.fault.DocFault.{DocFault}
use Rattle.scenario_text.specs.declared.kind.Entry.TheVariants as entry
use Rattle.scenario_text.specs.Form.{each, count}
use Rattle.scenario_text.specs.Kinds.{all_items, is_entry}
use Rattle.scenario_text.specs.Regions.{gather, with_first}
use Rattle.scenario_text.proofs.Ranges.{none_or}

-- what the tables of a list give, from an index on
abbrev pub given : {A : Type 0} → (ℕ → Members → A) → ℕ → Items → List A
given give i ds = gather (λ k d. option_map (give k) (as_table d)) i ds

module _ {A : Type 0} (f g : ℕ → Members → Option DocFault) (give : ℕ → Members → A) (P : A → Type 0) (holds : (i : ℕ) (ms : Members) → f i ms ≡ None → g i ms ≡ None → P (give i ms)) where
  all_first : (i : ℕ) (o : Option Members) (xs : List A) → option_and_then (f i) o ≡ None → option_and_then (g i) o ≡ None → All P xs → All P (with_first (option_map (give i) o) xs)
  all_first i None xs hf hg h = h
  all_first i (Some ms) xs hf hg h = All-cons P (give i ms) xs (holds i ms hf hg) h

  -- what holds of each entry of which neither check fails holds of all
  pub all_given : (i : ℕ) (ds : Items) → each f i ds ≡ None → each g i ds ≡ None → All P (given give i ds)
  all_given i no_items hf hg = All-nil P
  all_given i (item d ds) hf hg =
      let (f_here, f_more) = none_or (option_and_then (f i) (as_table d)) (each f (i + 1) ds) hf in
      let (g_here, g_more) = none_or (option_and_then (g i) (as_table d)) (each g (i + 1) ds) hg in
      all_first i (as_table d) (given give (i + 1) ds) f_here g_here (all_given (i + 1) ds f_more g_more)

-- where every entry passes, each gives something
module _ {A : Type 0} (passes : Data → Bool) (give : ℕ → Data → Option A) (some : (i : ℕ) (d : Data) → passes d ≡ true → is_some (give i d) ≡ true) where
  length_first : (o : Option A) (xs : List A) → is_some o ≡ true → length (with_first o xs) ≡ suc (length xs)
  length_first None xs h = cc
  length_first (Some x) xs h = refl

  pub length_gathered : (i : ℕ) (ds : Items) → all_items passes ds ≡ true → length (gather give i ds) ≡ count ds
  length_gathered i no_items h = refl
  length_gathered i (item d ds) h =
      let (here, more) = and_parts (passes d) (all_items passes ds) h in
      length_first (give i d) (gather give (i + 1) ds) (some i d here) ∙ ap suc (length_gathered (i + 1) ds more)

some_map : {A B : Type 0} (f : A → B) (o : Option A) → is_some o ≡ true → is_some (option_map f o) ≡ true
some_map f None h = h
some_map f (Some x) h = refl

-- where every entry is a table, there are as many as entries
pub length_given : {A : Type 0} (give : ℕ → Members → A) (i : ℕ) (ds : Items) → all_items (is_entry entry.Table) ds ≡ true → length (given give i ds) ≡ count ds
length_given give i ds h =
    length_gathered (is_entry entry.Table) (λ k d. option_map (give k) (as_table d)) (λ k d is_table. some_map (give k) (as_table d) is_table) i ds h

-- and each one's number is its place
module _ {A : Type 0} (give : ℕ → Members → A) (number : A → ℕ) (numbered : (i : ℕ) (ms : Members) → number (give i ms) ≡ i) where
  number_first : (i : ℕ) (o : Option Members) (xs : List A) → is_some o ≡ true → ((k : ℕ) (x : A) → slice_get xs k ≡ Some x → number x ≡ (i + 1) + k) → (k : ℕ) (x : A) → slice_get (with_first (option_map (give i) o) xs) k ≡ Some x → number x ≡ i + k
  number_first i None xs is h k x at = cc
  number_first i (Some ms) xs is h zero x at =
      let e : give i ms ≡ x = cc in
      sym (ap number e) ∙ numbered i ms ∙ sym (add-zero i)
  number_first i (Some ms) xs is h (suc k) x at = omega (arith, h k x at)

  pub number_given : (i : ℕ) (ds : Items) → all_items (is_entry entry.Table) ds ≡ true → (k : ℕ) (x : A) → slice_get (given give i ds) k ≡ Some x → number x ≡ i + k
  number_given i no_items h k x at = cc
  number_given i (item d ds) h k x at =
      let (here, more) = and_parts (is_entry entry.Table d) (all_items (is_entry entry.Table) ds) h in
      number_first i (as_table d) (given give (i + 1) ds) here (number_given (i + 1) ds more) k x at
