-- Which words are reserved, and that a word with all its bytes is the longest token.
use Rattle.std.specs.Prelude.{⊤}
use Rattle.std.proofs.Common.{◌≡◌, ◌≢◌, ◌⊎◌, inl, inr, ℕ, true, false, ◌||◌, List, [], ◌∷◌, refl, sym, ap, ◌∙◌, if◌then◌else◌, Option, Some, None, is_none, IfNone}
use Rattle.std.specs.List.{list_all}
use Rattle.std.specs.Str.{bytes_eq}
use Rattle.std.proofs.lemmas.Slice.Eq.{bytes_eq-Decides}
use Rattle.lz_base.specs.Names.{IsNew}
use Rattle.v_syntax.specs.declared.token.Keyword.{Keyword}
use Rattle.v_syntax.specs.declared.token.Keyword.TheVariants as k
use Rattle.v_syntax.specs.Tokens.{keyword_spelling, unused_words}
use Rattle.lz_base.specs.Names.{IsAmong}
use Rattle.v_lexer.proofs.Runs.{one_passes}
use Rattle.v_lexer.specs.Scan.{keyword_in, keywords, is_in}

-- each word of the table is its keyword's spelling
abbrev AreSpelled : List (List ℕ × Keyword) → Type 0
AreSpelled [] = ⊤
AreSpelled (entry ∷ table) = (entry.0 ≡ keyword_spelling entry.1) × AreSpelled table

keyword_spelled : (table : List (List ℕ × Keyword)) (word : List ℕ) (found : Keyword) → AreSpelled table → keyword_in table word ≡ Some found → word ≡ keyword_spelling found
keyword_spelled [] word found are is = cc
keyword_spelled (entry ∷ table) word found are is =
    elim (bytes_eq entry.0 word) as (λ b. bytes_eq entry.0 word ≡ b → (if b then Some entry.1 else keyword_in table word) ≡ Some found → word ≡ keyword_spelling found) [
      | true ↦ λ t e. let same : entry.0 ≡ word = (bytes_eq-Decides entry.0 word).0 t in let one : entry.1 ≡ found = cc in sym same ∙ are.0 ∙ ap keyword_spelling one
      | false ↦ λ t e. keyword_spelled table word found are.1 e
    ] refl is

keywords_spelled : AreSpelled keywords
unfolding keywords keyword_spelling
keywords_spelled = (refl, (refl, (refl, (refl, (refl, (refl, (refl, (refl, (refl, (refl, (refl, (refl, (refl, (refl, (refl, (refl, (refl, (refl, (refl, (refl, tt))))))))))))))))))))

pub keyword_is : (word : List ℕ) (found : Keyword) → keyword_in keywords word ≡ Some found → word ≡ keyword_spelling found
keyword_is word found is = keyword_spelled keywords word found keywords_spelled is

-- each keyword is found
pub keyword_found : (word : Keyword) → keyword_in keywords (keyword_spelling word) ≡ Some word
unfolding keywords keyword_spelling
keyword_found k.Module = refl
keyword_found k.Endmodule = refl
keyword_found k.Input = refl
keyword_found k.Output = refl
keyword_found k.Wire = refl
keyword_found k.Reg = refl
keyword_found k.Signed = refl
keyword_found k.Parameter = refl
keyword_found k.Localparam = refl
keyword_found k.Assign = refl
keyword_found k.Always = refl
keyword_found k.Posedge = refl
keyword_found k.Begin = refl
keyword_found k.End = refl
keyword_found k.If = refl
keyword_found k.Else = refl
keyword_found k.Case = refl
keyword_found k.Casez = refl
keyword_found k.Endcase = refl
keyword_found k.Default = refl

pub no_keyword : (word : List ℕ) (other : Keyword) → keyword_in keywords word ≡ None → word ≢ keyword_spelling other
no_keyword word other none = λ is. let found = keyword_found other in let e : keyword_in keywords word ≡ keyword_in keywords (keyword_spelling other) = ap (keyword_in keywords) is in cc

pub no_keywords : (word : List ℕ) (found : Option Keyword) → found ≡ keyword_in keywords word → IfNone found ((other : Keyword) → word ≢ keyword_spelling other)
no_keywords word (Some found) is = tt
no_keywords word None is = λ other. no_keyword word other (sym is)

-- a list of words, and the test on it
pub listed : (words : List (List ℕ)) (word : List ℕ) → is_in words word ≡ true → IsAmong word words
listed [] word is = cc
listed (other ∷ words) word is =
    elim (bytes_eq other word) as (λ b. bytes_eq other word ≡ b → (b || is_in words word) ≡ true → (word ≡ other) ⊎ IsAmong word words)
    [ true ↦ λ t e. inl (sym ((bytes_eq-Decides other word).0 t)) | false ↦ λ t e. inr (listed words word e) ] refl is

pub is_listed : (words : List (List ℕ)) (word : List ℕ) → IsAmong word words → is_in words word ≡ true
is_listed [] word is = absurd is
is_listed (other ∷ words) word (inl same) = rw ((bytes_eq-Decides other word).1 (sym same)) refl
is_listed (other ∷ words) word (inr is) =
    elim (bytes_eq other word) as (λ b. (b || is_in words word) ≡ true) [ true ↦ refl | false ↦ is_listed words word is ]

pub not_listed : (words : List (List ℕ)) (word : List ℕ) → is_in words word ≡ false → IsNew word words
not_listed [] word is = tt
not_listed (other ∷ words) word is =
    elim (bytes_eq other word) as (λ b. bytes_eq other word ≡ b → (b || is_in words word) ≡ false → (word ≢ other) × IsNew word words) [
      | true ↦ λ t e. absurd (cc)
      | false ↦ λ t e. (λ same. let yes : bytes_eq other word ≡ true = (bytes_eq-Decides other word).1 (sym same) in let no : true ≡ false = sym yes ∙ t in cc, not_listed words word e)
    ] refl is

no_keyword_listed : list_all (λ word. is_none (keyword_in keywords word)) unused_words ≡ true
unfolding keywords unused_words
no_keyword_listed = refl

is_nothing : {A : Type 0} (o : Option A) → is_none o ≡ true → o ≡ None
is_nothing None is = refl
is_nothing (Some x) is = absurd (cc)

-- an unused word is no keyword
pub unused_no_keyword : (word : List ℕ) → IsAmong word unused_words → (other : Keyword) → word ≢ keyword_spelling other
unused_no_keyword word is other =
    no_keyword word other (is_nothing (keyword_in keywords word) (one_passes (λ w. is_none (keyword_in keywords w)) unused_words word is no_keyword_listed))
