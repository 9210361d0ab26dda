-- The saved form of a client's session (3.1.2.4, 4.1).
use Rattle.std.specs.Prelude.{◌≡◌, ⊤, ℕ, Bool, true, false, List, ◌++◌, Option, Some, None, codes}
use Rattle.std.specs.List.{last_or}
use Rattle.mq_flow.specs.SavedTwo.{saved_form_two}
use Rattle.mq_end.specs.Publishing.{ClientState}
use Rattle.mq_end.specs.Resuming.{kept_session}

-- the saved form of a client's session
abbrev pub saved_of : ClientState → List ℕ
saved_of client = saved_form_two client.config.id client.link.end.known (kept_session client.link)

-- The forms replaced each other in this order. If the saved form was known before, the last form is
-- saved now.
abbrev pub Holds : Option (List ℕ) → Option (List ℕ) → List (List ℕ) → Type 0
Holds None new forms = ⊤
Holds (Some old) new forms = new ≡ last_or (Some old) forms

-- a saved form in a file, with the mark that the server lost the session (3.2.2.2), or without it
abbrev pub marked_form : Bool → List ℕ → List ℕ
marked_form false form = form
marked_form true form = codes "LOST" ++ form
