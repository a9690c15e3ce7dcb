-- The forms of a module between its processes and its gates, and the machine that each of them is.
use Rattle.std.specs.Prelude.{◌≡◌, ℕ, ◌+◌, ◌==◌, ◌<◌, ◌^◌, List, [], ◌∷◌, ◌++◌, length, map, replicate, reverse, Bool, false, if◌then◌else◌, Some, slice_get, ⊤}
use Rattle.lz_base.specs.Bits.{low_bits}
use Rattle.lz_base.specs.WordValue.{WordValue}
use Rattle.lz_base.specs.declared.name.Port.{Port}
use Rattle.lz_machine.specs.Machine.{Machine}
use Rattle.v_meaning.specs.Designs as d
use Rattle.v_meaning.specs.Views.{Store, View}
use Rattle.x_expr.specs.declared.node.Shape.{Shape}
use Rattle.x_expr.specs.declared.node.Shape.TheVariants as s
use Rattle.x_expr.specs.declared.node.Node.{Node}
use Rattle.x_expr.specs.declared.node.Node.TheVariants as n
use Rattle.x_expr.specs.declared.forms.First.{First}
use Rattle.x_expr.specs.declared.forms.First.TheVariants as f
use Rattle.x_expr.specs.declared.forms.Sizes.{Sizes}
use Rattle.x_expr.specs.declared.forms.Roots.{Roots}
use Rattle.x_expr.specs.declared.forms.Step.{Step}
use Rattle.x_expr.specs.declared.forms.Plan.{Plan}
use Rattle.x_expr.specs.declared.forms.Flow.{Flow}
use Rattle.x_expr.specs.declared.forms.Chosen.{Chosen}
use Rattle.x_expr.specs.declared.forms.Register.{Register}
use Rattle.x_expr.specs.declared.forms.Flat.{Flat}
use Rattle.x_expr.specs.Nodes.{IsWidth, shape_at}
use Rattle.x_expr.specs.Values.{word_of, memory_of}

-- ---- roots

-- the values of roots that are words
abbrev pub root_words : View → List Node → List ℕ → List ℕ
root_words v nodes roots = map (word_of v nodes) roots

-- what the outputs show
abbrev pub shown : View → List Node → List Port → List ℕ → List WordValue
shown v nodes outputs roots = d.port_words outputs (root_words v nodes roots)

-- what the variables and memories become
abbrev pub next_store : View → List Node → Roots → Store
next_store v nodes roots = record { variables = root_words v nodes roots.variables; memories = map (memory_of v nodes) roots.memories }

-- ---- first values

abbrev pub first_of : First → d.First
first_of (f.Given width value) = d.Given value
first_of (f.Open width) = d.Open width
first_of (f.Words count width) = d.Words count width

-- how many bits of the first values are open
abbrev pub first_bits : List First → ℕ
first_bits firsts = d.total (map (λ first. d.open_bits_of (first_of first)) firsts)

-- the store of a first choice, and that in which each open bit is 0
abbrev pub first_store : List First → List Bool → Store
first_store firsts bits = d.first_store (map first_of firsts) bits

abbrev pub zero_store : List First → Store
zero_store firsts = first_store firsts (replicate (first_bits firsts) false)

-- ---- the flow: what a module does in a cycle, whatever the bits of its sites

-- it begins in the store of some first choice
pub record FlowStarts (flow : Flow) (store : Store) : Type 0 where
  pub first : List Bool
  pub bits : length first ≡ first_bits flow.sizes.firsts
  pub store_is : store ≡ first_store flow.sizes.firsts first

-- what its nodes look at in a cycle
abbrev pub flow_view : Flow → Store → List WordValue → List Bool → View
flow_view flow store inputs choice = d.view_over (d.word_values inputs) (d.words_from flow.sizes.sites choice) store []

-- some choice of the cycle lets it show these words and go on to that store
pub record FlowDoes (flow : Flow) (before : Store) (inputs words : List WordValue) (after : Store) : Type 0 where
  pub choice : List Bool
  pub bits : length choice ≡ d.total flow.sizes.sites
  pub shows : words ≡ shown (flow_view flow before inputs choice) flow.arena flow.head.outputs flow.roots.outputs
  pub goes_on : after ≡ next_store (flow_view flow before inputs choice) flow.arena flow.roots

abbrev pub flow_machine : Flow → Machine
flow_machine flow = record {
  State = Store;
  name = flow.head.name;
  clock = flow.head.clock;
  inputs = flow.head.inputs;
  outputs = flow.head.outputs;
  Starts = FlowStarts flow;
  Does = FlowDoes flow;
}

-- ---- the plan: which bits the sites have

-- what its expressions look at in a cycle
abbrev pub plan_view : List ℕ → Store → View
plan_view inputs store = d.view_over inputs [] store []

-- the word of a site: that of its expression, or 0 where it has none
abbrev pub planned : View → List Node → List Step → ℕ → ℕ
planned v nodes [] site = 0
planned v nodes (step ∷ steps) site = if step.site == site then word_of v nodes step.root else planned v nodes steps site

-- the bits of the sites from this number on, of these widths, each one's most significant bit first
abbrev pub planned_bits : View → List Node → List Step → ℕ → List ℕ → List Bool
planned_bits v nodes steps site [] = []
planned_bits v nodes steps site (width ∷ widths) =
    reverse (low_bits width (planned v nodes steps site)) ++ planned_bits v nodes steps (site + 1) widths

-- the choice of a cycle that the plan gives
abbrev pub choice_of : Plan → List ℕ → Store → List Bool
choice_of plan inputs store = planned_bits (plan_view inputs store) plan.arena plan.steps 0 plan.sizes.sites

-- ---- the chosen form: one plan for the sites, and each open first bit is 0

pub record ChosenDoes (chosen : Chosen) (before : Store) (inputs words : List WordValue) (after : Store) : Type 0 where
  pub shows : words ≡ shown (plan_view (d.word_values inputs) before) chosen.plan.arena chosen.head.outputs chosen.roots.outputs
  pub goes_on : after ≡ next_store (plan_view (d.word_values inputs) before) chosen.plan.arena chosen.roots

abbrev pub chosen_machine : Chosen → Machine
chosen_machine chosen = record {
  State = Store;
  name = chosen.head.name;
  clock = chosen.head.clock;
  inputs = chosen.head.inputs;
  outputs = chosen.head.outputs;
  Starts = λ store. store ≡ zero_store chosen.plan.sizes.firsts;
  Does = ChosenDoes chosen;
}

-- ---- the flat form: a register for each variable and each word of a memory

-- what its nodes look at: the registers are its variables
abbrev pub flat_view : List ℕ → List ℕ → View
flat_view registers inputs = plan_view inputs (record { variables = registers; memories = [] })

pub record FlatDoes (flat : Flat) (before : List ℕ) (inputs words : List WordValue) (after : List ℕ) : Type 0 where
  pub shows : words ≡ shown (flat_view before (d.word_values inputs)) flat.arena flat.head.outputs flat.outputs
  pub goes_on : after ≡ root_words (flat_view before (d.word_values inputs)) flat.arena (map (λ (r : Register). r.root) flat.registers)

abbrev pub flat_machine : Flat → Machine
flat_machine flat = record {
  State = List ℕ;
  name = flat.head.name;
  clock = flat.head.clock;
  inputs = flat.head.inputs;
  outputs = flat.head.outputs;
  Starts = λ registers. registers ≡ map (λ (r : Register). r.first) flat.registers;
  Does = FlatDoes flat;
}

-- ---- forms that keep to their sizes

-- the widths of variables and memories are 1 to 128, and a given value fits
abbrev pub AreFirsts : List First → Type 0
AreFirsts [] = ⊤
AreFirsts (f.Given width value ∷ firsts) = IsWidth width × (value < 2 ^ width) × AreFirsts firsts
AreFirsts (f.Open width ∷ firsts) = IsWidth width × AreFirsts firsts
AreFirsts (f.Words count width ∷ firsts) = IsWidth width × AreFirsts firsts

-- what the variables are, and the memories, in the order of their declarations
abbrev pub variables_in : List First → List Shape
variables_in [] = []
variables_in (f.Given width value ∷ firsts) = s.Word width ∷ variables_in firsts
variables_in (f.Open width ∷ firsts) = s.Word width ∷ variables_in firsts
variables_in (f.Words count width ∷ firsts) = variables_in firsts

abbrev pub memories_in : List First → List Shape
memories_in [] = []
memories_in (f.Given width value ∷ firsts) = memories_in firsts
memories_in (f.Open width ∷ firsts) = memories_in firsts
memories_in (f.Words count width ∷ firsts) = s.Memory count width ∷ memories_in firsts

-- what a node reads is among the inputs, variables, memories and sites of these sizes
abbrev pub ReadsOf : List ℕ → List Shape → List Shape → List ℕ → Node → Type 0
ReadsOf inputs variables memories sites (n.Input index width) = slice_get inputs index ≡ Some width
ReadsOf inputs variables memories sites (n.Variable index width) = slice_get variables index ≡ Some (s.Word width)
ReadsOf inputs variables memories sites (n.Memory index count width) = slice_get memories index ≡ Some (s.Memory count width)
ReadsOf inputs variables memories sites (n.Site index width) = slice_get sites index ≡ Some width
ReadsOf inputs variables memories sites node = ⊤

-- so does each node
abbrev pub AllRead : List ℕ → List Shape → List Shape → List ℕ → List Node → Type 0
AllRead inputs variables memories sites nodes = (i : ℕ) (node : Node) → slice_get nodes i ≡ Some node → ReadsOf inputs variables memories sites node

-- the nodes of these numbers are there and have these shapes
abbrev pub HaveShapes : List Node → List ℕ → List Shape → Type 0
HaveShapes nodes roots shapes = map (shape_at nodes) roots ≡ map Some shapes

abbrev pub port_shapes : List Port → List Shape
port_shapes ports = map (λ (p : Port). s.Word p.width) ports

-- roots of the outputs, the variables and the memories
pub record AreRoots (nodes : List Node) (outputs : List Port) (firsts : List First) (roots : Roots) : Type 0 where
  pub outputs_are : HaveShapes nodes roots.outputs (port_shapes outputs)
  pub variables_are : HaveShapes nodes roots.variables (variables_in firsts)
  pub memories_are : HaveShapes nodes roots.memories (memories_in firsts)

-- the sizes of a module with these inputs
pub record AreSizes (inputs : List Port) (sizes : Sizes) : Type 0 where
  pub inputs_are : sizes.inputs ≡ map (λ (p : Port). p.width) inputs
  pub firsts_are : AreFirsts sizes.firsts

pub record IsFlow (flow : Flow) : Type 0 where
  pub sizes : AreSizes flow.head.inputs flow.sizes
  pub reads : AllRead flow.sizes.inputs (variables_in flow.sizes.firsts) (memories_in flow.sizes.firsts) flow.sizes.sites flow.arena
  pub roots : AreRoots flow.arena flow.head.outputs flow.sizes.firsts flow.roots

-- the steps of a plan: each is of a site and has its width, and no site has two
abbrev pub site_of : Step → ℕ
site_of step = step.site

pub record IsPlan (plan : Plan) : Type 0 where
  pub reads : AllRead plan.sizes.inputs (variables_in plan.sizes.firsts) (memories_in plan.sizes.firsts) [] plan.arena
  pub widths : (i : ℕ) (step : Step) → slice_get plan.steps i ≡ Some step
      → (width : ℕ) × (slice_get plan.sizes.sites step.site ≡ Some width) × (shape_at plan.arena step.root ≡ Some (s.Word width))
  pub once : (i j : ℕ) (one other : Step) → slice_get plan.steps i ≡ Some one → slice_get plan.steps j ≡ Some other → one.site ≡ other.site → i ≡ j

pub record IsChosen (chosen : Chosen) : Type 0 where
  pub sizes : AreSizes chosen.head.inputs chosen.plan.sizes
  pub plan : IsPlan chosen.plan
  pub roots : AreRoots chosen.plan.arena chosen.head.outputs chosen.plan.sizes.firsts chosen.roots

abbrev pub register_shapes : List Register → List Shape
register_shapes registers = map (λ (r : Register). s.Word r.width) registers

pub record IsFlat (flat : Flat) : Type 0 where
  pub reads : AllRead (map (λ (p : Port). p.width) flat.head.inputs) (register_shapes flat.registers) [] [] flat.arena
  pub outputs : HaveShapes flat.arena flat.outputs (port_shapes flat.head.outputs)
  pub next : HaveShapes flat.arena (map (λ (r : Register). r.root) flat.registers) (register_shapes flat.registers)
  pub firsts : (i : ℕ) (r : Register) → slice_get flat.registers i ≡ Some r → IsWidth r.width × (r.first < 2 ^ r.width)
