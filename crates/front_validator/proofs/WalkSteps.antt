-- What the code of the search does at a node, by what the node calls.
use Rattle.std.proofs.Common.{◌≡◌, ℕ, ◌+◌, ◌<◌, List, [], ◌∷◌, ◌++◌, Option, Some, None, Bool, true, false, slice_get, length, refl, sym, ◌∙◌, ap, subst, arith}
use Rattle.std.proofs.Math.ListN.{set}
use Rattle.std.proofs.lemmas.List.{length-map}
use Rattle.std.proofs.lemmas.Option.{slice_get_within}
use Rattle.base_language.specs.Language.Text.{Text}
use Rattle.base_language.specs.Language.Expression.{Ident, Rule, rule_of, last_place}
use Rattle.front_spanned.specs.Erasure.{without_spans, rule_without_spans}
use Rattle.front_spanned.specs.Nodes.{rule_view, rule_views}
use Rattle.front_spanned.specs.Spanned.{Span, Spanned, Leaf, SpannedRule}
use Rattle.front_spanned.specs.declared.node.ParserRule.{ParserRule}
use Rattle.base_graphs.specs.Least.{is_set_at}
use Rattle.base_graphs.proofs.LeastLemmas.{item_at}
use Rattle.front_analysis.specs.Facts.{AreFacts}
use Rattle.front_validator.specs.LeftRecursion.{Means}
use Rattle.front_analysis.specs.Names.{grammar_of}
use Rattle.front_analysis.specs.Nodes.{all_nodes}
use Rattle.front_validator.specs.Walk.{Walked, WalkLeads, w_at_once, w_by_way}
use Rattle.front_validator.specs.Regions.{ArePassing}
use Rattle.front_validator.specs.Searching.{ordered, called_in, inside_of, cost, unentered, Calls, IsKnown, IsSearch, IsGoing, IsClosing, NeverComesBack}
use Rattle.front_analysis.specs.declared.facts.Facts.{Facts}
use Rattle.front_validator.specs.declared.recursions.Walk.{Walk}
use Rattle.front_analysis.specs.declared.kind_table.NodeKind.{NodeKind}
use Rattle.front_validator.specs.declared.recursions.Task.{Task}
use Rattle.front_validator.specs.declared.recursions.Task.TheVariants.{Visit, Leave}
use Rattle.front_validator.proofs.NoneWalks.{in_rules}
use Rattle.front_validator.proofs.NodeSteps.{Step, calls, goes_in, stepped_at, cost-append, cost_visit, unentered_set}
use Rattle.front_validator.proofs.RegionLemmas.{body_node}
use Rattle.front_analysis.proofs.Resolved.{Named, absent, named as named_rule, resolved}
use Rattle.front_analysis.proofs.Answering.{no_rule}
use Rattle.front_validator.proofs.PassingLemmas.{its_rule}
use Rattle.front_validator.proofs.SearchCalls.{over_known, closes, enters, begins}

module _ (rules : List ParserRule) (facts : Facts) (right : AreFacts rules facts) (passing : List Bool) (are : ArePassing rules facts.table.roots.items passing) (start : ℕ) (entered : List Bool) (node : ℕ) where
  abbrev roots : List ℕ
  roots = facts.table.roots.items

  abbrev V : List SpannedRule
  V = rule_views rules

  abbrev nodes : List Spanned
  nodes = all_nodes rules

  abbrev Search : List Task → List ℕ → Type 0
  Search todo path = IsSearch rules roots start entered todo path

  -- a node that calls a rule
  record Call (todo : List Task) (k : ℕ) (path : List ℕ) (t : ℕ) : Type 0 where
    span : Span
    name : Text
    here : slice_get nodes node ≡ Some (Leaf span (Ident name))
    means : Means V name t

  call_at : (todo : List Task) (k : ℕ) (path : List ℕ) → Search (Visit node ∷ todo) (k ∷ path) → (t : ℕ) → called_in (slice_get facts.table.kinds.items node) ≡ Some t → Call todo k path t
  call_at todo k path state t e = go (stepped_at rules facts right passing are start entered node todo k path state)
    where
      go : Step rules facts right passing are start entered node todo k path (called_in (slice_get facts.table.kinds.items node)) (inside_of passing (slice_get facts.table.kinds.items node)) → Call todo k path t
      go (calls u s n f here means) = let same : u ≡ t = (let h = sym f ∙ e in cc) in record { span = s; name = n; here = here; means = subst (λ z. Means V n z) same means }
      go (goes_in new f a b c) = let h = sym f ∙ e in cc

  pub in_range : (todo : List Task) (path : List ℕ) → Search (Visit node ∷ todo) path → (t : ℕ) → called_in (slice_get facts.table.kinds.items node) ≡ Some t → (t < length roots) × (t < length entered)
  in_range todo [] state t e = absurd state.placed
  in_range todo (k ∷ path) state t e = let call = call_at todo k path state t e in
      let (r, at, named) = in_rules V call.name t call.means in
      let a = slice_get_within V t r at in let b = right.table.alike in let c = length-map rules rule_view in let d = state.alike in
      (omega arith, omega arith)

  pub closing : (todo : List Task) (path : List ℕ) → Search (Visit node ∷ todo) path → called_in (slice_get facts.table.kinds.items node) ≡ Some start → IsClosing rules roots start node (ordered path)
  closing todo [] state e = absurd state.placed
  closing todo (k ∷ path) state e = let call = call_at todo k path state start e in
      record { call = Leaf call.span (Ident call.name); here = call.here; sought = closes rules roots start entered node call.span call.name todo k path call.here call.means state }

  pub known : (todo : List Task) (path : List ℕ) → Search (Visit node ∷ todo) path → (t : ℕ) → called_in (slice_get facts.table.kinds.items node) ≡ Some t → (t ≡ start → ⊥) → is_set_at entered t ≡ true
      → Search todo path × (cost nodes (ordered todo) < cost nodes (ordered todo ++ Visit node ∷ []))
  known todo [] state t e apart on = absurd state.placed
  known todo (k ∷ path) state t e apart on = let call = call_at todo k path state t e in (
    over_known rules roots start entered node call.span call.name t todo k path call.here call.means apart on state,
    (let a = cost_visit nodes (ordered todo) node (Leaf call.span (Ident call.name)) call.here in omega arith),
  )

  pub fresh : (todo : List Task) (path : List ℕ) → Search (Visit node ∷ todo) path → (t root : ℕ) → called_in (slice_get facts.table.kinds.items node) ≡ Some t → (t ≡ start → ⊥) → is_set_at entered t ≡ false → slice_get roots t ≡ Some root
      → IsSearch rules roots start (set entered t true) (Visit root ∷ Leave ∷ todo) (t ∷ path)
      × (cost nodes (ordered (Visit root ∷ Leave ∷ todo)) + unentered (set entered t true) V < cost nodes (ordered todo ++ Visit node ∷ []) + unentered entered V)
  fresh todo [] state t root e apart off got = absurd state.placed
  fresh todo (k ∷ path) state t root e apart off got =
      let call = call_at todo k path state t e in
      let (r, at, named) = in_rules V call.name t call.means in
      let place = body_node rules roots right.tabled.roots t root r at got in
      let small = (in_range todo (k ∷ path) state t e).1 in (
        enters rules roots start entered t apart small node call.span call.name root r todo k path call.here call.means off at place state,
        (let a = cost_visit nodes (ordered todo) node (Leaf call.span (Ident call.name)) call.here in
            let b = cost_visit nodes (ordered todo ++ Leave ∷ []) root r.body place.node in
            let c = cost-append nodes (ordered todo) (Leave ∷ []) in
            let d = unentered_set entered V t r state.alike at off in omega arith),
      )

  pub inner : (todo : List Task) (path : List ℕ) → Search (Visit node ∷ todo) path → called_in (slice_get facts.table.kinds.items node) ≡ None
      → (new : List Task) × (ordered todo ++ inside_of passing (slice_get facts.table.kinds.items node) ≡ ordered new) × Search new path
      × (cost nodes (ordered todo ++ inside_of passing (slice_get facts.table.kinds.items node)) < cost nodes (ordered todo ++ Visit node ∷ []))
  inner todo [] state e = absurd state.placed
  inner todo (k ∷ path) state e = go (stepped_at rules facts right passing are start entered node todo k path state)
    where
      go : Step rules facts right passing are start entered node todo k path (called_in (slice_get facts.table.kinds.items node)) (inside_of passing (slice_get facts.table.kinds.items node))
          → (new : List Task) × (ordered todo ++ inside_of passing (slice_get facts.table.kinds.items node) ≡ ordered new) × Search new (k ∷ path) × (cost nodes (ordered todo ++ inside_of passing (slice_get facts.table.kinds.items node)) < cost nodes (ordered todo ++ Visit node ∷ []))
      go (calls u s n f here means) = let h = sym f ∙ e in cc
      go (goes_in new f same next less) = (new, same, next, less)

-- the walk, begun
pub begun_going : (rules : List ParserRule) (facts : Facts) (right : AreFacts rules facts) (start root : ℕ) (r : SpannedRule) (flags : List Bool) → length flags ≡ length facts.table.roots.items → ((m : ℕ) → is_set_at flags m ≡ false)
    → slice_get (rule_views rules) start ≡ Some r → Means (rule_views rules) r.name start → slice_get facts.table.roots.items start ≡ Some root
    → IsGoing rules facts.table.roots.items start (set flags start true) (([] ++ Leave ∷ []) ++ Visit root ∷ []) ([] ++ start ∷ [])
begun_going rules facts right start root r flags l none here means got =
    let a = right.table.alike in
    let b = length-map rules rule_view in
    let w = slice_get_within (rule_views rules) start r here in
    let state = begins rules facts.table.roots.items start root r flags (omega arith) (omega arith) none here means (body_node rules facts.table.roots.items right.tabled.roots start root r here got) in
    record { todo = Visit root ∷ Leave ∷ []; path = start ∷ []; are_tasks = refl; is_trail = refl; state = state }

-- no walk comes back where all that was entered was left
module _ (rules : List ParserRule) (facts : Facts) (right : AreFacts rules facts) (start : ℕ) (entered : List Bool)
    (closed : (m : ℕ) → is_set_at entered m ≡ true → (r : SpannedRule) (j : ℕ) → slice_get (rule_views rules) m ≡ Some r → Calls rules facts.table.roots.items start r.name r.body j → IsKnown rules facts.table.roots.items start entered j) where
  starts : {n k : Text} → WalkLeads (grammar_of rules) n k → (q : Rule) × (rule_of (grammar_of rules) n ≡ Some q)
  starts (w_at_once {r = q} e w) = (q, e)
  starts (w_by_way a b) = starts a

  place : (n : Text) (q : Rule) → rule_of (grammar_of rules) n ≡ Some q → (c : ℕ) × Means (rule_views rules) n c
  place n q e = go (last_place (grammar_of rules) n) refl (resolved rules n)
    where
      go : (o : Option ℕ) → last_place (grammar_of rules) n ≡ o → Named rules n o → (c : ℕ) × Means (rule_views rules) n c
      go o h (absent f) = absurd (no_rule (sym f ∙ e))
      go o h (named_rule {r = c} rule at f) = (c, h)

  stays : {n k : Text} → WalkLeads (grammar_of rules) n k → (a : ℕ) → Means (rule_views rules) n a → is_set_at entered a ≡ true → (b : ℕ) → Means (rule_views rules) k b → IsKnown rules facts.table.roots.items start entered b
  stays (w_at_once {n = n} {k = k} {r = q} e w) a means on b goal =
      let (r, at, named) = in_rules (rule_views rules) n a means in
      let own : Means (rule_views rules) r.name a = subst (λ z. Means (rule_views rules) z a) (sym named) means in
      let same : q ≡ rule_without_spans r = its_rule rules facts right a r at own q (subst (λ z. rule_of (grammar_of rules) z ≡ Some q) (sym named) e) in
      let walked = subst (λ z. Walked (grammar_of rules) z (without_spans r.body) k) (sym named) (subst (λ z. Walked (grammar_of rules) n z.body k) same w) in
      closed a on r b at (k, walked, goal)
  stays (w_by_way {j = j} x y) a means on b goal = let (q, e) = starts y in let (c, m) = place j q e in stays y c m (stays x a means on c m).1 b goal

  pub never : is_set_at entered start ≡ true → NeverComesBack rules facts.table.roots.items start
  never on n means l = (stays l start means on start means).0 refl

-- a call is walked over as the code does it
module _ (rules : List ParserRule) (facts : Facts) (right : AreFacts rules facts) (passing : List Bool) (are : ArePassing rules facts.table.roots.items passing) (start node : ℕ) (old new : Walk) (todo : List Task) (path : List ℕ)
    (state : IsSearch rules facts.table.roots.items start old.entered.all.items (Visit node ∷ todo) path) (tasks : old.tasks.items ≡ ordered todo) (trail : old.trail.items ≡ ordered path) where
  abbrev Goes_on : Walk → Type 0
  Goes_on w = IsGoing rules facts.table.roots.items start w.entered.all.items w.tasks.items w.trail.items
      × (cost (all_nodes rules) w.tasks.items + unentered w.entered.all.items (rule_views rules) < cost (all_nodes rules) (old.tasks.items ++ Visit node ∷ []) + unentered old.entered.all.items (rule_views rules))

  pub walk_called : (t : ℕ) → called_in (slice_get facts.table.kinds.items node) ≡ Some t → (t ≡ start → ⊥) → (is_set_at old.entered.all.items t ≡ true → new ≡ old) → (is_set_at old.entered.all.items t ≡ false → new.entered.all.items ≡ set old.entered.all.items t true)
      → (is_set_at old.entered.all.items t ≡ false → new.trail.items ≡ old.trail.items ++ t ∷ []) → (is_set_at old.entered.all.items t ≡ false → (root : ℕ) → slice_get facts.table.roots.items t ≡ Some root → new.tasks.items ≡ (old.tasks.items ++ Leave ∷ []) ++ Visit root ∷ [])
      → Goes_on new
  walk_called t e apart on entered trailed queued = go (is_set_at old.entered.all.items t) refl
    where
      go : (b : Bool) → is_set_at old.entered.all.items t ≡ b → Goes_on new
      go true h =
          let (next, less) = known rules facts right passing are start old.entered.all.items node todo path state t e apart h in
          let a = ap (λ z. cost (all_nodes rules) z) tasks in
          let b = ap (λ z. cost (all_nodes rules) (z ++ Visit node ∷ [])) tasks in
          subst Goes_on (sym (on h)) (record { todo = todo; path = path; are_tasks = tasks; is_trail = trail; state = next }, omega arith)
      go false h =
          let small = (in_range rules facts right passing are start old.entered.all.items node todo path state t e).0 in
          let (root, got) = item_at facts.table.roots.items t small in
          let (next, less) = fresh rules facts right passing are start old.entered.all.items node todo path state t root e apart h got in
          let same : new.tasks.items ≡ ordered (Visit root ∷ Leave ∷ todo) = queued h root got ∙ ap (λ z. (z ++ Leave ∷ []) ++ Visit root ∷ []) tasks in
          let a = ap (λ z. cost (all_nodes rules) z) same in
          let b = ap (λ z. cost (all_nodes rules) (z ++ Visit node ∷ [])) tasks in
          let d = ap (λ z. unentered z (rule_views rules)) (entered h) in (
            record {
              todo = Visit root ∷ Leave ∷ todo;
              path = t ∷ path;
              are_tasks = same;
              is_trail = trailed h ∙ ap (λ z. z ++ t ∷ []) trail;
              state = subst (λ z. IsSearch rules facts.table.roots.items start z (Visit root ∷ Leave ∷ todo) (t ∷ path)) (sym (entered h)) next;
            },
            omega arith,
          )

  pub walk_inner : (o : Option NodeKind) → o ≡ slice_get facts.table.kinds.items node → called_in o ≡ None → (queued : List Task) → queued ≡ old.tasks.items ++ inside_of passing o
      → IsGoing rules facts.table.roots.items start old.entered.all.items queued old.trail.items
      × (cost (all_nodes rules) queued + unentered old.entered.all.items (rule_views rules) < cost (all_nodes rules) (old.tasks.items ++ Visit node ∷ []) + unentered old.entered.all.items (rule_views rules))
  walk_inner o is_kind none queued pushed =
      let (new_todo, same, next, less) = inner rules facts right passing are start old.entered.all.items node todo path state (sym (ap called_in is_kind) ∙ none) in
      let all : queued ≡ ordered todo ++ inside_of passing (slice_get facts.table.kinds.items node) = pushed ∙ (ap (λ z. z ++ inside_of passing o) tasks ∙ ap (λ z. ordered todo ++ inside_of passing z) is_kind) in
      let a = ap (λ z. cost (all_nodes rules) z) all in
      let b = ap (λ z. cost (all_nodes rules) (z ++ Visit node ∷ [])) tasks in
      (record { todo = new_todo; path = path; are_tasks = all ∙ same; is_trail = trail; state = next }, omega arith)
