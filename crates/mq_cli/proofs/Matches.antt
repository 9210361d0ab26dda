-- From the parser's matches to a job.
use Rattle.std.proofs.Common.{◌≡◌, ℕ, refl, sym, ap, ◌∙◌, Bool, true, false, codes, List, [], Bor, Option, Some, None, Result, Ok, option_map}
use Rattle.std.specs.Prelude.{Box, IfSome, unwrap_or}
use Rattle.std.specs.Box.{box_value}
use Rattle.std.specs.Str.Parse.{ParsesUnsigned}
use Rattle.clap.specs.Simple.{is_simple}
use Rattle.clap.specs.Words.{ReadsOne, Row, Text, first_value, matched_of, one_text, raw_values, rows_of, subcommand_rows}
use Rattle.clap.specs.declared.parser.matches.ArgMatches.TheViews.{out-SubCommand}
use Rattle.clap.specs.declared.parser.matches.Found.{Found}
use Rattle.clap.specs.declared.parser.matches.SubCommand.{SubCommand}
use Rattle.clap.proofs.OnLiterals.{clap_on_literals}
use Rattle.clap.proofs.WalkLemmas.{first_value-rows, one_text-rows, raw_values-rows}
use Rattle.mq_cli.specs.CommandLine.{GivesFlag, GivesNumber, GivesTexts, HasWord}
use Rattle.mq_cli.specs.Grammar.{program_words}

pub program_is_simple : is_simple program_words ≡ true
unfolding clap_on_literals
program_is_simple = refl

-- the command of this name was met, with these matches
pub record Met {Z : Type 0} (o : Option (Box SubCommand Z)) (name : Text) (f : Found) : Type 0 where
  pub named : option_map (λ b. (out-SubCommand (box_value b)).name.now) o ≡ Some name
  pub rows : option_map (λ p. p.1) (subcommand_rows o) ≡ Some (rows_of f)

command_met : {Z : Type 0} (o : Option (Box SubCommand Z)) (name : Text) (rows : List Row) → option_map (λ b. (out-SubCommand (box_value b)).name.now) o ≡ Some name
    → option_map (λ p. p.1) (subcommand_rows o) ≡ Some rows → subcommand_rows o ≡ Some (name, rows)
command_met None name rows n r = cc
command_met (Some b) name rows n r = cc

-- The value of an argument.
pub word_given : {Z : Type 0} (o : Option (Box SubCommand Z)) (name word : Text) (f : Found) (v : Option (Bor Text)) → Met o name f → option_map (λ s. s.now) v ≡ first_value f word
    → HasWord (subcommand_rows o) name word (option_map (λ s. s.now) v)
word_given o name word f v met read = (rows_of f, command_met o name (rows_of f) met.named met.rows, sym (first_value-rows f word) ∙ sym read)

-- all values of a word
pub texts_given : {Z : Type 0} (o : Option (Box SubCommand Z)) (name word : Text) (f : Found) (read : Option (List Text)) (texts : List Text) → Met o name f → read ≡ option_map raw_values (matched_of f word)
    → unwrap_or read [] ≡ texts → GivesTexts (subcommand_rows o) name word texts
texts_given o name word f read texts met same values =
    (rows_of f, command_met o name (rows_of f) met.named met.rows, ap (λ (o : Option (List Text)). unwrap_or o []) (sym (raw_values-rows f word) ∙ sym same) ∙ values)

-- the number of an option
pub number_given : {Z E : Type 0} (G : List ℕ → Result ℕ E → Type 0) (o : Option (Box SubCommand Z)) (name word : Text) (f : Found) (v : Option ℕ) → Met o name f
    → ((t : List ℕ) (n : ℕ) → G t (Ok n) → ParsesUnsigned {E = E} 64 10 t (Ok n)) → (one_text f word ≡ None → v ≡ None) → ((t : List ℕ) → one_text f word ≡ Some t → ReadsOne G t v)
    → IfSome v (GivesNumber (subcommand_rows o) name word)
number_given G o name word f None met only none read = tt
number_given {Z} {E} G o name word f (Some n) met only none read = go (one_text f word) refl
  where
    go : (t : Option Text) → one_text f word ≡ t → GivesNumber (subcommand_rows o) name word n
    go None e = let bad : Some n ≡ None = none e in absurd cc
    go (Some t) e =
        let parsed : ParsesUnsigned {E = E} 64 10 t (Ok n) = only t n (read t e) in
        (rows_of f, t, command_met o name (rows_of f) met.named met.rows, sym (one_text-rows f word) ∙ e, parsed.0.0, sym parsed.1)

-- whether a flag was given
pub flag_given : {Z : Type 0} (o : Option (Box SubCommand Z)) (name word : Text) (f : Found) (flag : Bool) → Met o name f → (one_text f word ≡ Some (codes "true") → flag ≡ true)
    → (one_text f word ≡ Some (codes "false") → flag ≡ false) → (one_text f word ≡ None → flag ≡ false) → GivesFlag (subcommand_rows o) name word flag
flag_given o name word f flag met given default none =
    let same = one_text-rows f word in
    (rows_of f, command_met o name (rows_of f) met.named met.rows, record { given = λ e. given (same ∙ e); default = λ e. default (same ∙ e); none = λ e. none (same ∙ e) })
