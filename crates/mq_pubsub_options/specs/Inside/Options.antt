-- The meaning of options, for the matches of the parser. Only proofs cite these definitions.
use Rattle.std.specs.Prelude.{◌≡◌, Option, Some, None, codes}
use Rattle.clap.specs.Words.{Text, first_value}
use Rattle.clap.specs.declared.parser.matches.Found.{Found}

-- the first of these that is there
abbrev pub first_of_three : {X : Type 0} → Option X → Option X → Option X → Option X
first_of_three (Some value) url default = Some value
first_of_three None (Some value) default = Some value
first_of_three None None default = default

-- An option goes before the environment. Without `-L` there is nothing between them.
abbrev pub IsLoginPart : Found → Text → Option Text → Option Text → Type 0
IsLoginPart given id default part =
    ((text : Text) → first_value given id ≡ Some text → part ≡ Some text)
    × (first_value given (codes "URL") ≡ None → first_value given id ≡ None → part ≡ default)
