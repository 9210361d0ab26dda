-- A configuration as bytes.
use Rattle.std.specs.Prelude.{ℕ, Bool, true, false, List, [], ◌∷◌, ◌++◌, length, Option, None, Some}
use Rattle.mq_decode.specs.Limits.{Bounds}
use Rattle.mq_route.specs.declared.config.HashedUser.{HashedUser}
use Rattle.mq_route.specs.declared.config.HubConfig.{HubConfig}
use Rattle.mq_route.specs.declared.config.User.{User}
use Rattle.mq_route.specs.declared.config.WhenFull.{WhenFull}
use Rattle.mq_route.specs.declared.config.WhenFull.TheVariants.{ClosePublisher, DropCopy}
use Rattle.mq_route.specs.Snapshot.{eight}

-- a number that may be missing
abbrev pub option_bytes : Option ℕ → List ℕ
option_bytes None = eight 0
option_bytes (Some number) = eight 1 ++ eight number

-- bytes behind their number
abbrev pub text_bytes : List ℕ → List ℕ
text_bytes bytes = eight (length bytes) ++ bytes

abbrev pub user_bytes : User → List ℕ
user_bytes user = text_bytes user.name ++ text_bytes user.password

abbrev pub hashed_bytes : HashedUser → List ℕ
hashed_bytes user = text_bytes user.name ++ text_bytes user.salt ++ text_bytes user.digest

abbrev pub users_bytes : List User → List ℕ
users_bytes [] = []
users_bytes (user ∷ users) = user_bytes user ++ users_bytes users

abbrev pub hashed_users_bytes : List HashedUser → List ℕ
hashed_users_bytes [] = []
hashed_users_bytes (user ∷ users) = hashed_bytes user ++ hashed_users_bytes users

-- the users, if they are restricted
abbrev pub user_table : Option (List User) → List ℕ
user_table None = eight 0
user_table (Some users) = eight 1 ++ eight (length users) ++ users_bytes users

abbrev pub hashed_table : Option (List HashedUser) → List ℕ
hashed_table None = eight 0
hashed_table (Some users) =
    eight 1 ++ eight (length users) ++ hashed_users_bytes users

abbrev pub bool_number : Bool → ℕ
bool_number true = 1
bool_number false = 0

abbrev pub when_full_number : WhenFull → ℕ
when_full_number ClosePublisher = 0
when_full_number DropCopy = 1

-- the limits of packets
abbrev pub packet_bytes : Bounds → List ℕ
packet_bytes limits = eight limits.most ++ eight (bool_number limits.lenient)

-- the limits of packets, sessions and connections
abbrev pub limit_bytes : HubConfig → List ℕ
limit_bytes config =
    packet_bytes config.limits
    ++ eight config.capacity
    ++ option_bytes config.window
    ++ eight config.max_conns
    ++ eight config.max_sessions

-- the limits of messages, and the times
abbrev pub bound_bytes : HubConfig → List ℕ
bound_bytes config =
    eight (when_full_number config.when_full)
    ++ option_bytes config.connect_within
    ++ option_bytes config.session_expiry
    ++ option_bytes config.most_stored
    ++ option_bytes config.most_waiting
    ++ option_bytes config.most_matches

-- the configuration
abbrev pub config_bytes : HubConfig → List ℕ
config_bytes config =
    limit_bytes config
    ++ bound_bytes config
    ++ user_table config.users
    ++ hashed_table config.hashed_users
