-- The options of rows.
use Rattle.std.proofs.Common.{◌≡◌, ◌<◌, ◌≤◌, ◌+◌, ℕ, Bool, false, Bor, List, [], ◌∷◌, ◌++◌, Result, Ok, Err, IfOk, map, take, get_or, refl, sym, ap, ◌∙◌, length}
use Rattle.std.proofs.lemmas.List.{map_more, map_push, take_all}
use Rattle.clap.specs.Words.{AddsAliases, App, Rule, Text, rule_of, with_rule}
use Rattle.clap.specs.declared.builder.arg.Arg.{Arg}
use Rattle.mq_pubsub_options.specs.Grammar.{renamed_rule, text_rule, with_rules}
use Rattle.mq_pubsub_options.specs.Inside.Grammar.{named_rule_of, rule_of_row}
use Rattle.mq_pubsub_options.specs.declared.grammar.Row.{Row}

-- an option with another name
pub renamed : {E : Type 0} (made : Result Arg E) (arg : Arg) (row : Row) (other : Bor Text) → rule_of arg ≡ text_rule (named_rule_of row) → IfOk made (λ new. AddsAliases arg new ((other, false) ∷ []))
    → IfOk made (λ new. rule_of new ≡ renamed_rule other.now (named_rule_of row))
renamed (Err e) arg row other is adds = tt
renamed (Ok new) arg row other is (new_is, added) =
    let name_of : Bor Text × Bool → Text = λ alias. alias.0.now in
    let names : map name_of new.aliases.items ≡ other.now ∷ [] =
    ap (map name_of) added ∙ map_push name_of arg.aliases.items (other, false) ∙ ap (λ (rule : Rule). rule.aliases ++ other.now ∷ []) is in
    ap rule_of new_is ∙ ap (λ (texts : List Text). record (rule_of arg) { aliases = texts }) names ∙ ap (λ (rule : Rule). record rule { aliases = other.now ∷ [] }) is

-- one more option
with_last : (app : App) (rules : List Rule) (rule : Rule) → with_rules app (rules ++ rule ∷ []) ≡ with_rule (with_rules app rules) rule
with_last app [] rule = refl
with_last app (first ∷ rest) rule = with_last (with_rule app first) rest rule

pub with_more : (app now new : App) (rows : List Row) (i : ℕ) (d : Row) → i < length rows → now ≡ with_rules app (map rule_of_row (take i rows)) → new ≡ with_rule now (rule_of_row (get_or rows i d))
    → new ≡ with_rules app (map rule_of_row (take (i + 1) rows))
with_more app now new rows i d below before is =
    is ∙ ap (λ a. with_rule a (rule_of_row (get_or rows i d))) before ∙ sym (with_last app (map rule_of_row (take i rows)) (rule_of_row (get_or rows i d))) ∙ ap (with_rules app) (sym (map_more rule_of_row rows i d below))

pub with_all : (app now : App) (rows : List Row) (i : ℕ) → length rows ≤ i → now ≡ with_rules app (map rule_of_row (take i rows)) → now ≡ with_rules app (map rule_of_row rows)
with_all app now rows i all is = is ∙ ap (λ r. with_rules app (map rule_of_row r)) (take_all i rows all)
