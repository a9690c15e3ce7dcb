-- The status that a source calls for.
use Rattle.std.proofs.Common.{◌≡◌, ◌<◌, ◌≤◌, ℕ, List, [], ◌∷◌, length, Some, Err, Vec, refl, ap, sym, arith, inl, inr, ◌∙◌}
use Rattle.std.proofs.lemmas.Option.{none-some, same_Some}
use Rattle.std.specs.declared.alloc.Global.{Global}
use Rattle.lz_base.specs.Limits.{source_limit}
use Rattle.lz_base.specs.declared.fault.Fault.{Fault}
use Rattle.lz_base.specs.declared.fault.Stop.{Stop}
use Rattle.lz_base.specs.declared.fault.Stop.TheVariants as stop
use Rattle.lz_base.specs.declared.rule.Rule.TheVariants.{E1, E2}
use Rattle.s_cli.specs.declared.status.Status.{Status}
use Rattle.s_cli.specs.declared.status.Status.TheVariants as status
use Rattle.v_syntax.specs.declared.module.Module.{Module}
use Rattle.v_syntax.specs.declared.token.Token.{Token}
use Rattle.v_syntax.specs.declared.small.SmallModule.{SmallModule}
use Rattle.v_syntax.specs.ModuleGrammar.{Derives}
use Rattle.v_syntax.specs.Tokens.{Lexes, BreaksAt}
use Rattle.s_flow.specs.FirstBroken.{first_broken}
use Rattle.s_flow.specs.Front.{IsMisread, IsBroken, IsNotSmall, IsRead}
use Rattle.s_flow.specs.SmallText.{IsSmallText}
use Rattle.s_cli.specs.declared.forms.Command.TheVariants as command
use Rattle.s_cli.specs.Answers.{Decides}
use Rattle.s_cli.specs.Sources.{IsSource, IsSourceJudged}
use Rattle.s_cli.specs.Synthesis.{IsTranslation, IsJudged}

-- A file has one token list or one place where it breaks, and not both; and its tokens derive one module.
pub record OneReading : Type 0 where
  pub tokens : (bytes : List ℕ) (a b : List Token) → Lexes bytes a → Lexes bytes b → a ≡ b
  pub place : (bytes : List ℕ) (a b : ℕ) → BreaksAt bytes a → BreaksAt bytes b → a ≡ b
  pub apart : (bytes : List ℕ) (ts : List Token) (at : ℕ) → Lexes bytes ts → BreaksAt bytes at → ⊥
  pub modules : (tokens : List Token) (a b : Module) → Derives tokens a → Derives tokens b → a ≡ b

-- so what a file breaks first is the same of all modules that its tokens derive
one_fault : OneReading → (source : List ℕ) (ts us : List Token) (m n : Module) → Lexes source ts → Lexes source us → Derives ts m → Derives us n → first_broken m ≡ first_broken n
one_fault one source ts us m n ts_lexed us_lexed m_derived n_derived =
    ap first_broken (one.modules us m n (rw (one.tokens source ts us ts_lexed us_lexed) at m_derived) n_derived)

-- ---- what every form of a source is judged by

pub source_judged_long : (source : List ℕ) → source_limit < length source → IsSourceJudged source (status.Refused (record { rule = E1; at = source_limit }))
source_judged_long source longer = record {
  too_long = λ _. inl refl;
  unlexed = λ _ within _. absurd (omega arith);
  unparsed = λ _ within _ _. absurd (omega arith);
  broken = λ _ _ _ within _ _ _. absurd (omega arith);
}

pub source_judged_memory : (source : List ℕ) → IsSourceJudged source status.OutOfMemory
source_judged_memory source = record { too_long = λ _. inr refl; unlexed = λ _ _ _. inr refl; unparsed = λ _ _ _ _. inr refl; broken = λ _ _ _ _ _ _ _. inr refl }

-- a source that breaks no rule is refused for none
pub source_judged_good : OneReading → (source : List ℕ) (m : Module) (result : Status) → IsSource source m → IsSourceJudged source result
source_judged_good one source m result is = record {
  too_long = λ longer. absurd (omega (arith, is.within));
  unlexed = λ at _ breaks. absurd (one.apart source is.tokens at is.lexed breaks);
  unparsed = λ ts _ lexed none. absurd (none m (rw (one.tokens source ts is.tokens lexed is.lexed) is.derived));
  broken = λ ts n fault _ lexed derived broken. absurd (none-some _ (sym is.kept ∙ one_fault one source is.tokens ts m n is.lexed lexed is.derived derived ∙ broken));
}

-- a fault of the tokens
source_judged_misread : OneReading → (source : List ℕ) (fault : Fault) (tokens : List Token) → length source ≤ source_limit → Lexes source tokens → IsMisread tokens (length source) fault → IsSourceJudged source (status.Refused fault)
source_judged_misread one source fault tokens within lexes (inl refused) = record {
  too_long = λ longer. absurd (omega arith);
  unlexed = λ at _ breaks. absurd (one.apart source tokens at lexes breaks);
  unparsed = λ ts _ lexed _. inl (fault, rw (one.tokens source ts tokens lexed lexes) refused, refl);
  broken = λ ts m _ _ lexed derived _. absurd (refused.none m (rw (one.tokens source ts tokens lexed lexes) at derived));
}
source_judged_misread one source fault tokens within lexes (inr u) = record {
  too_long = λ longer. absurd (omega arith);
  unlexed = λ at _ breaks. absurd (one.apart source tokens at lexes breaks);
  unparsed = λ ts _ lexed none. absurd (none u.module_ (rw (one.tokens source ts tokens lexed lexes) u.derived));
  broken = λ ts m other _ lexed derived broken.
      let same : Some fault ≡ Some other = sym u.broken ∙ one_fault one source tokens ts u.module_ m lexes lexed u.derived derived ∙ broken in
      inl (ap (λ (f : Fault). status.Refused f) (same_Some fault other same));
}

pub source_judged_broken : OneReading → (source : List ℕ) (fault : Fault) → length source ≤ source_limit → IsBroken source fault → IsSourceJudged source (status.Refused fault)
source_judged_broken one source fault within (inl r) = record {
  too_long = λ longer. absurd (omega arith);
  unlexed = λ at _ breaks.
      let rule : fault.rule ≡ E2 = r.rule_is in
      let place : fault.at ≡ at = one.place source fault.at at r.breaks breaks in
      let same : fault ≡ record { rule = E2; at = at } = ap (λ r. record { rule = r; at = fault.at }) rule ∙ ap (λ a. record { rule = E2; at = a }) place in
      inl (ap (λ (f : Fault). status.Refused f) same);
  unparsed = λ ts _ lexed _. absurd (one.apart source ts fault.at lexed r.breaks);
  broken = λ ts _ _ _ lexed _ _. absurd (one.apart source ts fault.at lexed r.breaks);
}
source_judged_broken one source fault within (inr r) = source_judged_misread one source fault r.tokens within r.lexed r.holds

no_misread : OneReading → (source : List ℕ) (fault : Fault) (tokens : List Token) (m : Module) → Lexes source tokens → IsMisread tokens (length source) fault → IsSource source m → ⊥
no_misread one source fault tokens m lexes (inl refused) is = refused.none m (rw (one.tokens source is.tokens tokens is.lexed lexes) at is.derived)
no_misread one source fault tokens m lexes (inr u) is = none-some _ (sym is.kept ∙ one_fault one source is.tokens tokens m u.module_ is.lexed lexes is.derived u.derived ∙ u.broken)

-- a source that breaks a rule is a text of no module that breaks none
pub no_source : OneReading → (source : List ℕ) (fault : Fault) (m : Module) → IsBroken source fault → IsSource source m → ⊥
no_source one source fault m (inl r) is = one.apart source is.tokens fault.at is.lexed r.breaks
no_source one source fault m (inr r) is = no_misread one source fault r.tokens m r.lexed r.holds is

-- ---- synthesis

small_source : (source : List ℕ) (s : SmallModule) → length source ≤ source_limit → (t : IsSmallText source s) → IsSource source t.from.module_
small_source source s within t = record { tokens = t.tokens; within = within; lexed = t.lexed; derived = t.from.derived; kept = t.from.kept }

pub judged_long : (source : List ℕ) → source_limit < length source → IsJudged source (status.Refused (record { rule = E1; at = source_limit }))
judged_long source longer = record {
  broken = source_judged_long source longer;
  unsupported = λ _ _ within _ _ _ _. absurd (omega arith);
  small = λ _ within _. absurd (omega arith);
}

pub judged_done : OneReading → (source output : List ℕ) → IsTranslation source output → IsJudged source status.Ok
judged_done one source output t = record {
  broken = source_judged_good one source t.spelled.from.module_ status.Ok (small_source source t.module_ t.within t.spelled);
  unsupported = λ ts _ _ lexed _ _ none. absurd (none t.module_ (rw (one.tokens source ts t.spelled.tokens lexed t.spelled.lexed) t.spelled.from.small));
  small = λ _ _ _. inl refl;
}

-- a module that breaks no rule and is no small one
judged_unmade : OneReading → (source : List ℕ) (fault : Fault) (tokens : List Token) → length source ≤ source_limit → Lexes source tokens → IsNotSmall tokens fault → IsJudged source (status.Refused fault)
judged_unmade one source fault tokens within lexes none = record {
  broken = source_judged_good one source none.module_ (status.Refused fault) (record { tokens = tokens; within = within; lexed = lexes; derived = none.derived; kept = none.kept });
  unsupported = λ _ _ _ _ _ _ _. inl (ap (λ (f : Fault). status.Refused f) none.fault_is);
  small = λ s _ t. absurd (none.none s (rw (one.tokens source tokens t.tokens lexes t.lexed) t.from.small));
}

pub judged_broken : OneReading → (source : List ℕ) (fault : Fault) → length source ≤ source_limit → IsBroken source fault → IsJudged source (status.Refused fault)
judged_broken one source fault within broken = record {
  broken = source_judged_broken one source fault within broken;
  unsupported = λ ts m _ lexed derived kept _. absurd (no_source one source fault m broken (record { tokens = ts; within = within; lexed = lexed; derived = derived; kept = kept }));
  small = λ s _ t. absurd (no_source one source fault t.from.module_ broken (small_source source s within t));
}

pub judged_memory : (source : List ℕ) → IsJudged source status.OutOfMemory
judged_memory source = record { broken = source_judged_memory source; unsupported = λ _ _ _ _ _ _ _. inr refl; small = λ _ _ _. inr refl }

-- what the reader of small modules refuses
pub small_refused : OneReading → (source : List ℕ) (e : Stop) → length source ≤ source_limit → IsRead source (Err e) → Decides (λ (v : Vec ℕ Global). IsTranslation source v.items) command.Synth (source ∷ []) (Err e)
small_refused one source (stop.Fault fault) within (inl broken) = (inr (within, inl broken), judged_broken one source fault within broken)
small_refused one source (stop.Fault fault) within (inr r) = (inr (within, inr r), judged_unmade one source fault r.tokens within r.lexed r.holds)
small_refused one source stop.OutOfMemory within broken = tt

-- and a source that is longer than it may be
pub longer_refused : (source : List ℕ) → source_limit < length source → Decides (λ (v : Vec ℕ Global). IsTranslation source v.items) command.Synth (source ∷ []) (Err (stop.Fault (record { rule = E1; at = source_limit })))
longer_refused source longer = (inl (record { longer = longer; fault_is = refl }), judged_long source longer)
