-- Nodes: aligned ranges of indices for which aggregates (*summaries*) are stored. A node of level 1 is called a block.
use Rattle.std.specs.Prelude.{ℕ, ◌+◌, ◌-◌, ◌*◌, ◌/◌, ◌^◌, Bool, ◌&&◌, nat_eq, nat_le}
use Rattle.lv_geometry.specs.declared.nodes.Node.{Node}

-- whether a node is of a level from 1 to 6: those for which aggregates are stored
abbrev pub is_node : Node → Bool
is_node n = nat_le 1 n.level && nat_le n.level 6

-- whether two nodes are equal
abbrev pub same_node : Node → Node → Bool
same_node n m = nat_eq n.level m.level && nat_eq n.number m.number

-- how many indices a node has
abbrev pub width : Node → ℕ
width n = 8 ^ n.level

-- the least index of a node
abbrev pub first_index : Node → ℕ
first_index n = n.number * 8 ^ n.level

-- the node of a level that contains index i
abbrev pub over : ℕ → ℕ → Node
over level i = record { level = level; number = i / 8 ^ level }

-- whether a node contains index i
abbrev pub covers : Node → ℕ → Bool
covers n i = nat_eq (i / 8 ^ n.level) n.number

-- whether every index of a node is below a size
abbrev pub is_below : Node → ℕ → Bool
is_below n size = nat_le ((n.number + 1) * 8 ^ n.level) size

-- child k of a node above level 1: its eight children, in order, have the node's indices
abbrev pub child : Node → ℕ → Node
child n k = record { level = n.level - 1; number = 8 * n.number + k }

-- the node one level up that contains a node's indices
abbrev pub parent : Node → Node
parent n = record { level = n.level + 1; number = n.number / 8 }
