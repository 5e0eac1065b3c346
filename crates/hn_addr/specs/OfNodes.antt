-- What the nodes that a router reaches say of one kind: things that are made of the parts of their data.
use Rattle.std.specs.Prelude.{◌↔◌, ℕ, List, Contains}
use Rattle.hn_base.specs.declared.ids.NodeId.{NodeId}
use Rattle.hn_data.specs.Said.{HasVersion}
use Rattle.hn_data.specs.View.{PlainView}
use Rattle.hn_data.specs.declared.view.Entry.{Entry}

-- one of the elements gives it
pub record IsGivenByOne {X T : Type 0} (Gives : X → T → Type 0) (xs : List X) (t : T) : Type 0 where
  pub one : X
  pub among : Contains xs one
  pub gives : Gives one t

module _ {Part T : Type 0} (Says : List ℕ → Part → Type 0) (Makes : NodeId → Part → T → Type 0) where
  -- the node has an HNCP-Version, and one of the parts that its data say makes it
  pub record IsOfNode (node : Entry) (t : T) : Type 0 where
    pub version : HasVersion node.body
    pub part : Part
    pub says : Says node.body part
    pub makes : Makes node.id part t

  -- these are what the nodes of a view give
  abbrev pub AreOfNodes : PlainView → List T → Type 0
  AreOfNodes view list = (t : T) → Contains list t ↔ IsGivenByOne IsOfNode view.nodes t
