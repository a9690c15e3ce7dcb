-- What a production takes: its tokens, and among their places those of its sites, one behind another.
use Rattle.std.proofs.Common.{◌≡◌, ◌≤◌, ◌+◌, ℕ, List, [], ◌∷◌, ◌++◌, flat_map, Option, Some, None, refl, sym, ap, subst, ◌∙◌, inl, inr, append_assoc, append-nil, le_refl, le_trans, arith}
use Rattle.std.proofs.lemmas.List.Concat.{flat_map-cons}
use Rattle.v_syntax.specs.declared.token.Token.{Token}
use Rattle.v_syntax.specs.declared.token.Lexeme.{Lexeme}
use Rattle.v_syntax.specs.declared.token.Keyword.{Keyword}
use Rattle.v_syntax.specs.Tokens.{AreTokens}
use Rattle.v_syntax.specs.Rule.{Rule, ◌>>=◌, ◌<|>◌, yields, token, ident, here, optional, flag, many, several, listed}
use Rattle.v_meaning.specs.Sites.{Site}

-- they stand one behind another, from one place on and below another
abbrev pub Spans : ℕ → List Site → ℕ → Type 0
Spans from [] to = from ≤ to
Spans from (s ∷ more) to = (from ≤ s.at) × Spans (s.at + 1) more to

-- how far they go
spans_far : (from to : ℕ) (xs : List Site) → Spans from xs to → from ≤ to
spans_far from to [] h = h
spans_far from to (s ∷ more) h =
    let p : s.at + 1 ≤ to = spans_far (s.at + 1) to more h.1 in
    let q : from ≤ s.at = h.0 in
    omega arith

pub spans_behind : (from mid to : ℕ) (ys : List Site) → from ≤ mid → Spans mid ys to → Spans from ys to
spans_behind from mid to [] h p = le_trans h p
spans_behind from mid to (s ∷ more) h p = (le_trans h p.0, p.1)

spans_more : (from mid to : ℕ) (xs ys : List Site) → Spans from xs mid → Spans mid ys to → Spans from (xs ++ ys) to
spans_more from mid to [] ys p q = spans_behind from mid to ys p q
spans_more from mid to (s ∷ more) ys p q = (p.0, spans_more (s.at + 1) mid to more ys p.1 q)

-- the tokens between these two lists have these sites
pub record Takes (before after : List Token) (xs : List Site) : Type 0 where
  pub spans : (from end : ℕ) → AreTokens from end before → (to : ℕ) × AreTokens to end after × Spans from xs to

pub takes_none : (before after : List Token) → before ≡ after → Takes before after []
takes_none before after same = subst (λ (l : List Token). Takes before l []) same (record { spans = λ from end h. (from, h, le_refl from) })

pub takes_more : {before mid after : List Token} {xs ys : List Site} → Takes before mid xs → Takes mid after ys → Takes before after (xs ++ ys)
takes_more {xs = xs} {ys = ys} p q = record {
  spans = λ from end h.
      let first = p.spans from end h in
      let second = q.spans first.0 end first.1 in
      (second.0, second.1, spans_more from first.0 second.0 xs ys first.2 second.2);
}

-- a token, and what stands at it
pub takes_one : (before after : List Token) (t : Token) (s : Site) → s.at ≡ t.at → before ≡ t ∷ after → Takes before after (s ∷ [])
takes_one before after t s at is = subst (λ (l : List Token). Takes l after (s ∷ [])) (sym is) (record {
  spans = λ from end h.
      let there : from ≤ s.at = subst (λ (n : ℕ). from ≤ n) (sym at) h.1 in
      let past : s.at + 1 ≤ t.at + 1 = omega arith in
      (t.at + 1, h.3, (there, past));
})

pub takes_forgotten : {before after : List Token} {xs : List Site} → Takes before after xs → Takes before after []
takes_forgotten {xs = xs} p = record { spans = λ from end h. let r = p.spans from end h in (r.0, r.1, spans_far from r.0 xs r.2) }

pub takes_token : (before after : List Token) (t : Token) → before ≡ t ∷ after → Takes before after []
takes_token before after t is = takes_forgotten (takes_one before after t (record { at = t.at; width = 0 }) refl is)

-- ---- productions

-- whatever the production derives has these sites
pub record Within {A : Type 0} (P : Rule A) (f : A → List Site) : Type 0 where
  pub takes : (before after : List Token) (a : A) → P before after a → Takes before after (f a)

-- it derives what has these sites in front, from tokens before it, and the others from its own
pub record Behind {B : Type 0} (front : List Site) (Q : Rule B) (g : B → List Site) : Type 0 where
  pub rest : (before after : List Token) (b : B) → Q before after b → (xs : List Site) × (g b ≡ front ++ xs) × Takes before after xs

pub within_whole : {B : Type 0} {Q : Rule B} {g : B → List Site} → Behind [] Q g → Within Q g
within_whole p = record {
  takes = λ before after b d. let r = p.rest before after b d in subst (λ (l : List Site). Takes before after l) (sym r.1) r.2;
}

pub behind_bind : {A B : Type 0} {P : Rule A} {Q : A → Rule B} {f : A → List Site} {g : B → List Site} {front : List Site} →
    Within P f → ((a : A) → Behind (front ++ f a) (Q a) g) → Behind front (P >>= Q) g
behind_bind {f = f} {front = front} p q = record {
  rest = λ before after b d.
      let r = (q d.1).rest d.0 after b d.3 in
      (f d.1 ++ r.0, r.1 ∙ append_assoc front (f d.1) r.0, takes_more (p.takes before d.0 d.1 d.2) r.2);
}

-- the same of what holds no site
pub behind_then : {A B : Type 0} {P : Rule A} {Q : A → Rule B} {g : B → List Site} {front : List Site} →
    Within P (λ _. []) → ((a : A) → Behind front (Q a) g) → Behind front (P >>= Q) g
behind_then p q = record {
  rest = λ before after b d.
      let r = (q d.1).rest d.0 after b d.3 in
      (r.0, r.1, takes_more (p.takes before d.0 d.1 d.2) r.2);
}

pub behind_yields : {B : Type 0} {b : B} {g : B → List Site} {front : List Site} → g b ≡ front → Behind front (yields b) g
behind_yields {g = g} {front = front} is = record {
  rest = λ before after c d. ([], ap g d.1 ∙ is ∙ sym (append-nil front), takes_none before after d.0);
}

pub behind_or : {B : Type 0} {P Q : Rule B} {g : B → List Site} {front : List Site} → Behind front P g → Behind front Q g → Behind front (P <|> Q) g
behind_or {g = g} {front = front} p q = record {
  rest = λ before after b d. elim d [
    | inl h ↦ p.rest before after b h
    | inr h ↦ q.rest before after b h
  ];
}

pub within_or : {B : Type 0} {P Q : Rule B} {g : B → List Site} → Within P g → Within Q g → Within (P <|> Q) g
within_or p q = record {
  takes = λ before after b d. elim d [
    | inl h ↦ p.takes before after b h
    | inr h ↦ q.takes before after b h
  ];
}

-- what a production has in front of nothing
pub behind_nothing : {B : Type 0} {Q : Rule B} {g : B → List Site} → Within Q g → Behind [] Q g
behind_nothing {g = g} p = record { rest = λ before after b d. (g b, refl, p.takes before after b d) }

-- sites that are not asked for
pub within_none : {A : Type 0} {P : Rule A} {f : A → List Site} → Within P f → Within P (λ _. [])
within_none p = record { takes = λ before after a d. takes_forgotten (p.takes before after a d) }

pub within_token : {x : Lexeme} → Within (token x) (λ _. [])
within_token {x = x} = record { takes = λ before after at d. takes_token before after (record { lexeme = x; at = at }) d }

pub within_ident : Within ident (λ _. [])
within_ident = record { takes = λ before after i d. takes_token before after _ d }

pub within_here : Within here (λ _. [])
within_here = record { takes = λ before after at d. takes_none before after d.0 }

pub within_yields : {B : Type 0} {b : B} {g : B → List Site} → g b ≡ [] → Within (yields b) g
within_yields is = within_whole (behind_yields is)

-- { P }
pub within_many : {A : Type 0} {P : Rule A} {f : A → List Site} → Within P f → Within (many P) (flat_map f)
within_many {A = A} {P = P} {f = f} p = record { takes = all }
  where
    all : (before after : List Token) (xs : List A) → many P before after xs → Takes before after (flat_map f xs)
    all before after [] d = takes_none before after d
    all before after (x ∷ xs) d =
        subst (λ (l : List Site). Takes before after l) (sym (flat_map-cons f x xs)) (takes_more (p.takes before d.0 x d.1) (all d.0 after xs d.2))

-- P { P }
pub within_several : {A : Type 0} {P : Rule A} {f : A → List Site} → Within P f → Within (several P) (flat_map f)
within_several {f = f} p = within_whole (behind_bind p λ first. behind_bind (within_many p) λ others. behind_yields (flat_map-cons f first others))

-- P { "," P }
pub within_listed : {A : Type 0} {P : Rule A} {f : A → List Site} → Within P f → Within (listed P) (flat_map f)
within_listed {f = f} p = within_whole
    (behind_bind p λ first. behind_bind (within_many (within_whole (behind_then within_token λ _. behind_nothing p))) λ others.
    behind_yields (flat_map-cons f first others))

-- [ P ]
pub within_optional : {A : Type 0} {P : Rule A} {f : A → List Site} {g : Option A → List Site} → Within P f → ((a : A) → g (Some a) ≡ f a) → g None ≡ [] → Within (optional P) g
within_optional p some none = within_or (within_whole (behind_bind p λ a. behind_yields (some a))) (within_yields none)

pub within_flag : {x : Keyword} → Within (flag x) (λ _. [])
within_flag = within_or (within_whole (behind_then within_token λ _. behind_yields refl)) (within_yields refl)
