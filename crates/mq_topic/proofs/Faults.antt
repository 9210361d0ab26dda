-- A text has no fault exactly if it is a topic name (or topic filter).
use Rattle.std.proofs.Common.{◌≡◌, ℕ, Bool, true, false, not, cond, eqb, ltb, List, length, Option, Some, None, refl, arith}
use Rattle.std.specs.List.{list_any}
use Rattle.std.specs.Option.{option_or, is_none}
use Rattle.std.specs.Str.{is_utf8}
use Rattle.std.proofs.lemmas.Bool.{ltb-false, le-ltb, and_parts, not-true}
use Rattle.mq_wire.specs.Text.{has_nul}
use Rattle.mq_topic.specs.Topic.{IsTopicFilter, IsTopicName, is_wildcard, levels, levels_fault}
use Rattle.mq_topic.specs.Fault.{filter_fault, name_fault}
use Rattle.mq_topic.specs.Laws.{TopicLaws}
use Rattle.mq_topic.proofs.FilterLevels.{filter_levels, is_none-true}
use Rattle.mq_topic.proofs.Standard.{matching}
use Rattle.mq_topic.specs.declared.fault.TopicFault.{TopicFault}
use Rattle.mq_topic.specs.declared.fault.TopicFault.TheVariants.{Empty, Nul, TooLong, Wildcard}

-- the tests that a text without faults has passed
passed : (empty nul long : Bool) (o : Option TopicFault)
    → option_or (cond empty (Some Empty) (cond nul (Some Nul) (cond long (Some TooLong) None))) o ≡ None
    → (empty ≡ false) × (nul ≡ false) × (long ≡ false) × (o ≡ None)
passed true nul long o e = absurd cc
passed false true long o e = absurd cc
passed false false true o e = absurd cc
passed false false false o e = (refl, refl, refl, e)

plain : (wildcard : Bool) → cond wildcard (Some Wildcard) None ≡ None → wildcard ≡ false
plain true e = absurd cc
plain false e = refl

name_from_none : (t : List ℕ) → is_utf8 t ≡ true → name_fault t ≡ None → IsTopicName t
name_from_none t utf8 e =
    let p = passed (eqb (length t) 0) (has_nul t) (ltb 65535 (length t)) (cond (list_any is_wildcard t) (Some Wildcard) None) e in
    record {
      text = record { utf8 = utf8; no_nul = p.1; short = omega (arith, ltb-false _ _ p.2) };
      name = rw (p.0, plain (list_any is_wildcard t) p.3) refl;
    }

none_from_name : (t : List ℕ) → IsTopicName t → name_fault t ≡ None
none_from_name t h =
    let p = and_parts (not (eqb (length t) 0)) (not (list_any is_wildcard t)) h.name in
    rw (not-true _ p.0, h.text.no_nul, le-ltb 65535 (length t) (omega arith), not-true _ p.1) refl

filter_from_none : (t : List ℕ) → is_utf8 t ≡ true → filter_fault t ≡ None → IsTopicFilter t
filter_from_none t utf8 e =
    let p = passed (eqb (length t) 0) (has_nul t) (ltb 65535 (length t)) (levels_fault (levels t)) e in
    record {
      text = record { utf8 = utf8; no_nul = p.1; short = omega (arith, ltb-false _ _ p.2) };
      filter = rw (p.0, p.3) refl;
    }

none_from_filter : (t : List ℕ) → IsTopicFilter t → filter_fault t ≡ None
none_from_filter t h =
    let p = and_parts (not (eqb (length t) 0)) (is_none (levels_fault (levels t))) h.filter in
    rw (not-true _ p.0, h.text.no_nul, le-ltb 65535 (length t) (omega arith), is_none-true _ p.1) refl

pub laws : TopicLaws
laws = record {
  name = λ t utf8. (name_from_none t utf8, none_from_name t);
  filter = λ t utf8. (filter_from_none t utf8, none_from_filter t);
  filter_levels = filter_levels;
  matching = matching;
}
