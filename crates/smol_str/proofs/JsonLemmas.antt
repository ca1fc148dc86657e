-- JSON strings: what is written for a text, what is read as it, and when each fault comes.
use Rattle.smol_str.proofs.Common.{◌≡◌, true, Some, refl, sym, ap, ◌∙◌, rules, Result, IfOk, Global, IfOk-weaker, ◌<◌, ℕ, arith, nat_tests, nil_from_length, List, [], ◌∷◌, ◌++◌, list_all, length, take, drop, append-nil, common_steps, take-append-drop, append_assoc}
use Rattle.smol_str.proofs.Common.{encode_utf8_all, chars, encodes-chars, encodes_same, encodes-append, IsUtf8-string_bytes, String, string_bytes}
use Rattle.smol_str.proofs.Common.{IsResident, place_of, Meaning, IsValueOf}
use Rattle.std.proofs.Common.{ap₂, option_and_then, IfErr, IsErrAnd}
use Rattle.std.specs.List.{prefix_len}
use Rattle.std.proofs.lemmas.Grind.{flat_map-append}
use Rattle.std.proofs.lemmas.List.Folds.{list_all-append}
use Rattle.std.proofs.lemmas.List.{length-drop}
use Rattle.std.proofs.lemmas.Str.{encode_ascii}
use Rattle.smol_str.proofs.TextLemmas.Utf8.{form}
use Rattle.smol_str.proofs.TextLemmas.Results.{IfErr-is}
use Rattle.smol_str.proofs.PlainLemmas.{high, escape-plain, run-passes, cut-run}
use Rattle.smol_str.specs.Plain.{is_plain, is_space, IsPlain, IsPlainJson, in_quotes}
use Rattle.smol_str.specs.Json.{json_value, IsJsonText, IsJsonOf, AfterValueFault, AfterJsonFault}
use Rattle.smol_str.specs.Unescaped.{Unescapes}
use Rattle.smol_str.specs.declared.json_string.fault.JsonFault.{JsonFault}
use Rattle.smol_str.specs.declared.json_string.fault.JsonFault.TheVariants.{OutOfMemory}
use Rattle.serde_json.specs.Data.{Data, string}
use Rattle.serde_json.specs.Read.{read, of_json}
use Rattle.serde_json.specs.View.{view}
use Rattle.serde_json.specs.Written.{compact_text}
use Rattle.serde_json.specs.declared.value.Value as value
use Rattle.serde_json.proofs.OnLiterals.{serde_json_on_literals}
use Rattle.json.specs.Json as json
use Rattle.json.specs.Text.{content}
use Rattle.json.specs.Lex.{token, string_token, lex, between, punctuate, fresh}
use Rattle.json.specs.Print.{escape}
use Rattle.json.proofs.Printed.Strings.{content-escape, lex-escape}
use Rattle.smol_str.proofs.JsonLemmas.Unescaped.{Unescapes-plain}
pub mod Unescaped

-- ---- a string is read, with white space around it

lex-spaces : (g r : List ℕ) → list_all is_space g ≡ true → lex between (g ++ r) ≡ lex between r
unfolding lex
lex-spaces [] r h = refl
lex-spaces (x ∷ g) r h = grind (arith, common_steps, nat_tests, lex-spaces g r)

read-string : (before inner s behind : List ℕ) → list_all is_space before ≡ true → Unescapes inner s (34 ∷ behind) → list_all is_space behind ≡ true
    → read (before ++ 34 ∷ inner) ≡ Some (string s)
unfolding serde_json_on_literals punctuate lex content
read-string before inner s behind opened unescapes closed =
    ap (λ ls. option_and_then of_json (option_and_then (λ p. json.if_last p.0 p.1) (json.value 127 (punctuate fresh ls))))
    (lex-spaces before _ opened
    ∙ ap₂ (λ o l. token (string_token o) ∷ l) (unescapes.0 ∙ ap Some (append-nil s))
    (unescapes.1 ∙ ap (lex between) (sym (append-nil behind)) ∙ lex-spaces behind [] closed))

-- what was written is read
Unescapes-escape : (s behind : List ℕ) → Unescapes (escape s ++ 34 ∷ behind) s (34 ∷ behind)
unfolding lex content
Unescapes-escape s behind = (content-escape s behind ∙ ap Some (sym (append-nil s)), lex-escape s behind)

read-spaced : (g s h : List ℕ) → list_all is_space g ≡ true → list_all is_space h ≡ true
    → read (g ++ 34 ∷ (escape s ++ 34 ∷ h)) ≡ Some (string s)
read-spaced g s h before behind = read-string g _ s h before (Unescapes-escape s h) behind

pub read-compact : (s : List ℕ) → read (compact_text (string s)) ≡ Some (string s)
read-compact s = read-spaced [] s [] refl refl

-- ---- a text is plain exactly where its bytes are

pub plain-encoded : (t : List ℕ) → list_all is_plain (encode_utf8_all t) ≡ list_all is_plain t
plain-encoded [] = refl
plain-encoded (c ∷ t) = grind (arith, common_steps, high, form c, list_all-append, plain-encoded t)

pub escape-encoded : (t : List ℕ) → IsPlain t → escape (encode_utf8_all t) ≡ encode_utf8_all t
escape-encoded t h = escape-plain _ (rw (plain-encoded t) h)

-- ---- what is written, and what is read in place

pub ruleset pieces = (high, nil_from_length, encodes-append, encodes-chars, encode_ascii, flat_map-append, append_assoc, append-nil)

-- the string behind white space and a quote
pub read-cut : (text inner s behind : List ℕ) → drop (prefix_len is_space text) text ≡ 34 ∷ inner → Unescapes inner s (34 ∷ behind)
    → list_all is_space behind ≡ true → read text ≡ Some (string s)
read-cut text inner s behind opened unescapes closed =
    let whole : text ≡ take (prefix_len is_space text) text ++ 34 ∷ inner = cc (take-append-drop (prefix_len is_space text) text) in
    ap read whole ∙ read-string _ inner s behind (run-passes is_space text) unescapes closed

pub read-plain-cut : (text inner s rest behind : List ℕ) → drop (prefix_len is_space text) text ≡ 34 ∷ inner → inner ≡ s ++ rest
    → list_all is_plain s ≡ true → rest ≡ 34 ∷ behind → list_all is_space behind ≡ true → read text ≡ Some (string s)
read-plain-cut text inner s rest behind opened whole is closing closed =
    read-cut text inner s behind opened (rw (whole, closing) (Unescapes-plain s (34 ∷ behind) is)) closed

-- a text of which a string is not known to be plain: it does not begin with a quote, or its plain front ends at no quote
module _ (text t : List ℕ) (h : IsPlainJson text t) where
  begins : drop (prefix_len is_space text) text ≡ 34 ∷ (encode_utf8_all t ++ 34 ∷ h.1.1)
  begins = rw (h.1.4) (cut-run is_space h.1.0 (encode_utf8_all t ++ 34 ∷ h.1.1) 34 h.1.2 refl)

  pub plain-begins : ((rest : List ℕ) → ¬ (drop (prefix_len is_space text) text ≡ 34 ∷ rest)) → ⊥
  plain-begins other = other _ begins

  pub plain-ends : (inner rest : List ℕ) → drop (prefix_len is_space text) text ≡ 34 ∷ inner → rest ≡ drop (prefix_len is_plain inner) inner
      → ((behind : List ℕ) → list_all is_space behind ≡ true → ¬ (rest ≡ 34 ∷ behind)) → ⊥
  plain-ends inner rest opened is unclosed =
      let inside : inner ≡ encode_utf8_all t ++ 34 ∷ h.1.1 = cc (opened, begins) in
      unclosed h.1.1 h.1.3 (is ∙ rw inside (cut-run is_plain (encode_utf8_all t) h.1.1 34 (rw (plain-encoded t) h.0) refl))

pub opened-some : (text inner : List ℕ) → drop (prefix_len is_space text) text ≡ 34 ∷ inner → 0 < length text
opened-some text inner opened = omega (arith, ap length opened, length-drop (prefix_len is_space text) text)

pub ruleset cuts = (cut-run, plain-encoded, read-plain-cut, read-cut, encodes-chars)

-- what is written for a text
module _ {E : Type 0} (r : Result (String Global) E) (t : List ℕ) (h : IfOk r (λ json. string_bytes json ≡ compact_text (json_value t))) where
  pub written-back : IfOk r (λ json. IsJsonText (string_bytes json) t)
  written-back = IfOk-weaker r _ _ (λ json e. ap read e ∙ read-compact _) h

  pub written-plain : IsPlain t → IfOk r (λ json. string_bytes json ≡ in_quotes (encode_utf8_all t))
  written-plain plain = IfOk-weaker r _ _ (λ json e. e ∙ rw (escape-encoded t plain)) h

pub ruleset texts_written = (escape-plain, written-back, written-plain)

-- ---- values, and faults

-- two texts with one JSON value are one
pub json_value-same : (s t : List ℕ) → json_value s ≡ json_value t → s ≡ t
json_value-same s t e = encodes_same s t cc

-- a string value is the JSON value of its text
pub view-chars : (s : String Global) → view (value.String s) ≡ json_value (chars (string_bytes s))
view-chars s = grind (arith, common_steps, encodes-chars, IsUtf8-string_bytes, value.the_lemmas)

pub IsJsonOf-IsValueOf : (t : List ℕ) (v : Meaning) → IsValueOf t v → IsJsonOf (json_value t) v
IsJsonOf-IsValueOf t v h = record { text = ap json_value (sym h.text); place = h.place ∙ ap place_of (sym h.text) }

-- the string of a text that is not resident: so is each text of which it is the string
pub AfterValueFault-memory : {T : Type 0} (r : Result T JsonFault) (s : String Global) → IsErrAnd r (λ fault. fault ≡ OutOfMemory)
    → ¬ (IsResident (chars (string_bytes s))) → IfErr r (AfterValueFault (view (value.String s)))
AfterValueFault-memory r s is long = IfErr-is (AfterValueFault _) r OutOfMemory is (search (rules, view-chars, json_value-same))

pub ruleset read_values = (view-chars, json_value-same, IsJsonOf-IsValueOf, AfterValueFault-memory)

-- plain JSON of a text is read as that text
pub read-plain : (b t : List ℕ) → IsPlainJson b t → IsJsonText b t
read-plain b t h = ap read h.1.4 ∙ rw (escape-encoded t h.0) at (read-spaced h.1.0 (encode_utf8_all t) h.1.1 h.1.2 h.1.3)

pub ruleset laws = (read-compact, escape-encoded, read-plain)

-- bytes are read as one text
pub read-same : (text s : List ℕ) → IsJsonText text s → (t : List ℕ) → IsJsonText text t → t ≡ s
read-same text s reads t e = encodes_same t s cc

-- the empty list of bytes is not a JSON text
pub some_bytes : (bs : List ℕ) (d : Data) → read bs ≡ Some d → 0 < length bs
unfolding serde_json_on_literals
some_bytes [] d e = cc
some_bytes (b ∷ bs) d e = omega arith

pub AfterJsonFault-memory : {T : Type 0} (r : Result T JsonFault) (bs : List ℕ) (d : Data) → read bs ≡ Some d
    → IsErrAnd r (λ fault. fault ≡ OutOfMemory) → IfErr r (AfterJsonFault bs)
AfterJsonFault-memory r bs d reads is = IfErr-is (AfterJsonFault bs) r OutOfMemory is (some_bytes bs d reads)

pub ruleset values_read = (read-same, read-plain, AfterJsonFault-memory, some_bytes, opened-some, read-plain-cut, read-cut, encodes-chars)
