-- Arithmetic of the integers ℤ of lib.IntN, for proofs of plane geometry and of signed code. What to reach for:
--     an identity                        Ring    ring 3 0 (λ a b c. …) tt
--     a linear order or equation         Lin     lin 0 3 (λ a b c. …) (omega arith);  with nothing to restate, the library's omega (arith, ints)
--     an order between polynomials       Poly    poly 3 0 (λ a b c. … from []) tt (omega arith);  Cert, by a certificate: cert 3 0 (λ a b c. … ∵ …) tt
--     a law by name                      Order
--     a signed machine operation fits    Machine, by bounds
--     a test or an element in code       Tests
--     a part of a lent slice             Parts
-- Examples has a call of each solver.
pub mod Diff
pub mod Expr
pub mod Lin
pub mod Ring
pub mod Order
pub mod Cert
pub mod Poly
pub mod Machine
pub mod Tests
pub mod Parts
pub mod Examples
