-- The kinds of line, which word 0 tells by its exact text. Assumes nothing.
use Rattle.std.specs.Prelude.{◌≡◌, ℕ, List, [], ◌∷◌, Some, codes, Option, find}
use Rattle.std.specs.Str.{bytes_eq}
use Rattle.words.specs.declared.kind.LineKind.{LineKind}
use Rattle.words.specs.declared.kind.LineKind.TheVariants.{ToolVersion, MkQuant, MkVar, MkApp, AttachMeaning, AttachVarNames, Eof, MkLambda, MkProof, AttachEnode, EqExpl, NewMatch, InstDiscovered, Instance, EndOfInstance, DecideAndOr, Decide, Assign, Push, Pop, BeginCheck, QueryDone, ResolveProcess, ResolveLit, Conflict}

-- word 0 of each kind: six that are read, the end of a trace, eighteen that are passed over
abbrev pub text_of : LineKind → List ℕ
text_of ToolVersion = codes "[tool-version]"
text_of MkQuant = codes "[mk-quant]"
text_of MkVar = codes "[mk-var]"
text_of MkApp = codes "[mk-app]"
text_of AttachMeaning = codes "[attach-meaning]"
text_of AttachVarNames = codes "[attach-var-names]"
text_of Eof = codes "[eof]"
text_of MkLambda = codes "[mk-lambda]"
text_of MkProof = codes "[mk-proof]"
text_of AttachEnode = codes "[attach-enode]"
text_of EqExpl = codes "[eq-expl]"
text_of NewMatch = codes "[new-match]"
text_of InstDiscovered = codes "[inst-discovered]"
text_of Instance = codes "[instance]"
text_of EndOfInstance = codes "[end-of-instance]"
text_of DecideAndOr = codes "[decide-and-or]"
text_of Decide = codes "[decide]"
text_of Assign = codes "[assign]"
text_of Push = codes "[push]"
text_of Pop = codes "[pop]"
text_of BeginCheck = codes "[begin-check]"
text_of QueryDone = codes "[query-done]"
text_of ResolveProcess = codes "[resolve-process]"
text_of ResolveLit = codes "[resolve-lit]"
text_of Conflict = codes "[conflict]"

abbrev pub kinds : List LineKind
kinds =
    ToolVersion ∷ MkQuant ∷ MkVar ∷ MkApp ∷ AttachMeaning ∷ AttachVarNames ∷ Eof ∷ MkLambda ∷ MkProof ∷ AttachEnode ∷ EqExpl ∷ NewMatch ∷
    InstDiscovered ∷ Instance ∷ EndOfInstance ∷ DecideAndOr ∷ Decide ∷ Assign ∷ Push ∷ Pop ∷ BeginCheck ∷ QueryDone ∷ ResolveProcess ∷ ResolveLit ∷ Conflict ∷ []

-- the kinds counted from 0, in that order
abbrev pub number_of : LineKind → ℕ
number_of ToolVersion = 0
number_of MkQuant = 1
number_of MkVar = 2
number_of MkApp = 3
number_of AttachMeaning = 4
number_of AttachVarNames = 5
number_of Eof = 6
number_of MkLambda = 7
number_of MkProof = 8
number_of AttachEnode = 9
number_of EqExpl = 10
number_of NewMatch = 11
number_of InstDiscovered = 12
number_of Instance = 13
number_of EndOfInstance = 14
number_of DecideAndOr = 15
number_of Decide = 16
number_of Assign = 17
number_of Push = 18
number_of Pop = 19
number_of BeginCheck = 20
number_of QueryDone = 21
number_of ResolveProcess = 22
number_of ResolveLit = 23
number_of Conflict = 24

-- the kind whose text is exactly w, none where w is the text of no known kind
abbrev pub kind_of : List ℕ → Option LineKind
kind_of w = find (λ k. bytes_eq w (text_of k)) kinds

-- a line has a kind exactly when its word 0 is that kind's text, so no two kinds share a text
pub record KindsByText : Type 0 where
  pub taken : (k : LineKind) → kind_of (text_of k) ≡ Some k
  pub exact : (w : List ℕ) (k : LineKind) → kind_of w ≡ Some k → w ≡ text_of k
