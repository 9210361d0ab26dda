-- The queries of a node of a trie: its children and its clients.
use Rattle.std.specs.Prelude.{◌==◌, ℕ, List, Option, Some, None, if◌then◌else◌}
use Rattle.std.specs.Arc.{arc_str_bytes}
use Rattle.std.specs.Cmp.Lexicographic.{slice_cmp}
use Rattle.std.specs.Map.{lookup}
use Rattle.std.specs.Option.{option_map_or, option_or}
use Rattle.std.specs.Ordering.{is_eq, nat_cmp}
use Rattle.std.specs.Str.{bytes_eq}
use Rattle.std.specs.String.{string_bytes}
use Rattle.mq_topic.specs.LevelNumber.{level_number}
use Rattle.mq_topic.specs.declared.children.Children.{Children}
use Rattle.mq_topic.specs.declared.clients.Clients.{Clients}
use Rattle.mq_topic.specs.declared.clients.Clients.TheVariants.{Nobody, One, Several}
use Rattle.mq_topic.specs.declared.level_map.Child.{Child}
use Rattle.mq_topic.specs.declared.level_map.LevelMap.{LevelMap}
use Rattle.mq_topic.specs.declared.qos.Qos.{Qos}
use Rattle.mq_topic.specs.declared.trie_nodes.NodeId.{NodeId}

-- The node's own child, if it is the one at this level.
abbrev pub own_child : List ℕ → Option Child → Option NodeId
own_child level None = None
own_child level (Some child) = if bytes_eq level (arc_str_bytes child.level) then Some child.id else None

-- The child with this hash in a map.
abbrev pub child_numbered : ℕ → LevelMap → Option Child
child_numbered number map = lookup (λ other. number == other) map.numbered.entries

-- The child at a level whose hash collides with that of another child.
abbrev pub child_collided : List ℕ → LevelMap → Option NodeId
child_collided level map = lookup (λ text. is_eq (slice_cmp nat_cmp level (string_bytes text))) map.collided.entries

-- The child at a level in a map.
abbrev pub mapped_child : List ℕ → LevelMap → Option NodeId
mapped_child level map = option_or (own_child level (child_numbered (level_number level) map)) (child_collided level map)

-- The child at a level, if the map stores it.
abbrev pub child_beside : List ℕ → Children → Option NodeId
child_beside level children = option_map_or (λ boxed. mapped_child level boxed.value) children.others None

-- The child at a level.
abbrev pub child_in : List ℕ → Children → Option NodeId
child_in level children = option_or (own_child level children.first) (child_beside level children)

-- The QoS of a client.
abbrev pub client_in : ℕ → Clients → Option Qos
client_in client Nobody = None
client_in client (One other qos) = if is_eq (nat_cmp client other) then Some qos else None
client_in client (Several map) = lookup (λ other. is_eq (nat_cmp client other)) map.entries
