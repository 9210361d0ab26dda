-- The bytes that a loop has written so far.
use Rattle.std.proofs.Common.{◌≡◌, ℕ, List, ◌++◌, Option, take, drop, sym, ap, ◌∙◌, append_assoc, take-append-drop}
use Rattle.std.proofs.KnownBytes.{Appends-trans, Appends-kept}
use Rattle.std.specs.Io.KnownBytes.{Keeps, Appends}

-- All bytes but the rest were appended.
pub record Written (old new : Option (List ℕ)) (all rest : List ℕ) : Type 0 where
  pub front : List ℕ
  pub parts : all ≡ front ++ rest
  pub appends : Appends old new front

pub written_more : (a b c : Option (List ℕ)) (all rest : List ℕ) (n : ℕ) → Written a b all rest → Appends b c (take n rest) → Written a c all (drop n rest)
written_more a b c all rest n w p = record {
  front = w.front ++ take n rest;
  parts = w.parts ∙ ap (λ z. w.front ++ z) (sym (take-append-drop n rest)) ∙ sym (append_assoc w.front (take n rest) (drop n rest));
  appends = Appends-trans a b c w.front (take n rest) w.appends p;
}

pub written_kept : (a b c : Option (List ℕ)) (all rest : List ℕ) → Written a b all rest → Keeps b c → Written a c all rest
written_kept a b c all rest w p = record { front = w.front; parts = w.parts; appends = Appends-kept a b c w.front w.appends p }
