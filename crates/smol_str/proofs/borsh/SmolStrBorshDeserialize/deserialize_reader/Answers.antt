use Rattle.smol_str.proofs.Common.{IfOk-weaker, IfErr-weaker}
use Rattle.smol_str.specs.WireFaults.{AfterBodyFault, AfterDecodeFault}
use Rattle.smol_str.proofs.WireLemmas.Borsh.{is_read-of_body, Consumes-of_body, AfterDecodeFault-of_body}
use Rattle.smol_str.proofs.borsh.SmolStrBorshDeserialize.deserialize_reader.Goals as goal

pub returns : goal.returns
returns g c =
    let stated = c.in_ok-stated.stated in
    let size = c.in_ok-stated.ensures.ok in
    record {
      ok = IfOk-weaker _ _ _ (λ v h. Consumes-of_body stated size.0 _ _ v h _ size.1) c.read_body.ensures.ok;
      value = IfOk-weaker _ _ _ (λ v h. is_read-of_body stated size.0 _ _ v h) c.read_body.ensures.ok;
      fault =
          IfErr-weaker c.read_body.result (AfterBodyFault _ _ stated) (AfterDecodeFault _ _)
          (λ fault h. AfterDecodeFault-of_body stated size.0 _ _ _ fault size.1 h) c.read_body.ensures.fault;
    }
