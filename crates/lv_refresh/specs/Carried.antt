-- What a job carries, and the outcome of it too.
use Rattle.std.specs.Prelude.{ℕ}
use Rattle.lv_geometry.specs.declared.nodes.Node.{Node}
use Rattle.lv_refresh.specs.declared.contents.Contents.{Contents}

-- a node, the number of the edit that touched it last, its contents then, and the body to fold them by
pub record Carried (B S : Type 0) : Type 0 where
  pub node : Node
  pub version : ℕ
  pub contents : Contents S
  pub body : B
